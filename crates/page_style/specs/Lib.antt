pub mod Added
pub mod Specified
