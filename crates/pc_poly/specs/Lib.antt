pub mod Rows
pub mod Assigning
pub mod Polyhedra
pub mod Views
pub mod Chains
pub mod Laws
