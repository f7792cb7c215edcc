pub mod Fitting
pub mod Readings
pub mod Sorts
pub mod steps
