pub mod Seeds
pub mod Upto
