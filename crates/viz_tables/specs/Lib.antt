pub mod Lists
pub mod Lines
pub mod Tables
pub mod Words
pub mod Joins
pub mod Searches
pub mod Surveys
