pub mod Generated
pub mod Grown
pub mod Limits
pub mod Growth
pub mod steps
