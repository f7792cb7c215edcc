pub mod Seen
pub mod Chosen
pub mod Beside
pub mod Trimming
pub mod Buckets
pub mod Present
pub mod Trying
