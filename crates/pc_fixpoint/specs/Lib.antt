pub mod Flowing
pub mod Marks
pub mod Rounds
pub mod Ebbing
pub mod Sweeps
