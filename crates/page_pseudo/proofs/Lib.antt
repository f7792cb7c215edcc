pub mod Children
pub mod Nesting
pub mod Above
pub mod Counting
pub mod Members
pub mod Order
pub mod GrownPages
pub mod OneGrowth
