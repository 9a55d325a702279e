pub mod Context
pub mod Faults
pub mod Kept
pub mod Trees
pub mod Texts
pub mod Spelling
pub mod Walks
