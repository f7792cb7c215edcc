pub mod Scan
pub mod Resolve
