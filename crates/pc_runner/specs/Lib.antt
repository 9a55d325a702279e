pub mod Computed
pub mod Checked
pub mod Stack
pub mod Verdicts
pub mod Runs
pub mod Scripts
pub mod Answers
