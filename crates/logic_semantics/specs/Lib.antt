pub mod Scenes
pub mod Terms
pub mod Truth
pub mod Blame
pub mod Ranges
pub mod Laws
