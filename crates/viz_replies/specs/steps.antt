pub mod Searches
pub mod Answers
pub mod Refusals
pub mod Rejects
pub mod Violations
