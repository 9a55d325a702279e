pub mod Names
pub mod Sums
pub mod Parts
pub mod Terms
pub mod RowParts
pub mod Lines
pub mod Growing
