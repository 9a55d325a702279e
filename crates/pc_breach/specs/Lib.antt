pub mod Entry
pub mod Following
pub mod Graphs
pub mod Answers
pub mod Laws
pub mod Sought
pub mod Scripts
