pub mod Classes
pub mod Families
pub mod Faults
pub mod Refusals
pub mod Rows
pub mod Grammars
pub mod Initials
pub mod Sides
