pub mod Needs
pub mod Views
pub mod Laws
