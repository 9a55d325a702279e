pub mod Lists
pub mod Carrying
pub mod Asked
pub mod Numbers
pub mod Closed
pub mod Witness
pub mod Entries
pub mod Assigning
