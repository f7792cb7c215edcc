pub mod Tables
pub mod Nodes
pub mod Spaces
pub mod Leads
pub mod Places
pub mod Refusing
pub mod Extents
pub mod Words
