pub mod Attributes
pub mod Chains
pub mod Machine
pub mod Outcomes
pub mod Trees
