pub mod Forms
pub mod Texts
pub mod Kinds
pub mod Faults
pub mod Readers
pub mod Counts
pub mod LineReaders
pub mod Answers
