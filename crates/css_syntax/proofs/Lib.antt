pub mod Texts
pub mod MediaSteps
