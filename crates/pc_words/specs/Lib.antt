pub mod Words
pub mod CommandLine
pub mod Taken
pub mod Building
