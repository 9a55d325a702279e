pub mod Options
pub mod Places
pub mod Picking
pub mod Folding
pub mod Heads
pub mod Entered
