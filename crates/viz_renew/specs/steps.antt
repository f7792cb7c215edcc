pub mod Read
pub mod Renew
pub mod Bare
pub mod Walks
