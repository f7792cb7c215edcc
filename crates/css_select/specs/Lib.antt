pub mod steps
pub mod Refusals
pub mod Verdicts
