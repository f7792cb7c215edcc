pub mod Fitting
pub mod Readings
