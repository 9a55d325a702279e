pub mod Shape
pub mod Ranges
pub mod Flaws
pub mod Rule
pub mod Accepts
pub mod Laws
