pub mod Members
pub mod Meanings
pub mod Findings
pub mod Atoms
