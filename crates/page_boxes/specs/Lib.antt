pub mod steps
pub mod Seen
pub mod Trees
