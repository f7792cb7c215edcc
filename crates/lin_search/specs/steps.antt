pub mod Checked
pub mod Pairs
