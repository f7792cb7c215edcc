pub mod Values
pub mod Faults
pub mod Fonts
pub mod Elements
pub mod Documents
pub mod Jobs
pub mod Seen
pub mod Pages
