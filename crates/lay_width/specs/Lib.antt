pub mod Readings
pub mod Fitting
pub mod steps
