pub mod Finds
pub mod Turns
