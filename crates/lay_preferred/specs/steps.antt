pub mod Columns
pub mod Extremes
pub mod Outer
pub mod Parts
