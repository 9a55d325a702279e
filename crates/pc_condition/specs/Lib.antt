pub mod Conditions
pub mod Law
pub mod Examples
