pub mod UpTo
pub mod Reads
