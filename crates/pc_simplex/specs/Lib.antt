pub mod Values
pub mod Choosing
pub mod Pivoting
pub mod Found
pub mod Turns
pub mod Ending
pub mod Searching
