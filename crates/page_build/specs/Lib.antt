pub mod Sheets
pub mod Refusals
pub mod Renumbering
pub mod Jobs
pub mod Seen
pub mod Laws
