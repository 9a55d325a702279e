pub mod Canonical
pub mod Pieces
