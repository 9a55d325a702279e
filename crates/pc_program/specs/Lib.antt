pub mod Forms
pub mod Laws
pub mod Loops
pub mod Naming
pub mod Sane
pub mod Machine
pub mod Values
