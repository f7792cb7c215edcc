pub mod Queries
pub mod Distinct
pub mod Features
pub mod Parts
pub mod Guards
pub mod Laws
