pub mod Outcomes
pub mod steps
