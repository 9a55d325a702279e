pub mod WordLemmas
pub mod LoopLemmas
pub mod Adding
pub mod SimpleCommand
pub mod Plainness
mod Examples
pub mod SpellingLemmas
