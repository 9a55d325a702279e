pub mod Values
pub mod Kept
pub mod Exactly
pub mod Answers
pub mod Keys
pub mod Named
