pub mod Loads
pub mod Screens
