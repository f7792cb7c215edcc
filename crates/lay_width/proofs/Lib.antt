pub mod ClampedTerms
pub mod Levels
