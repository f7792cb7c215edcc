pub mod Stretches
pub mod MediaLists
pub mod Sheets
