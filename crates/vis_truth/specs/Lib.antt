pub mod Names
pub mod Premises
pub mod Scenes
