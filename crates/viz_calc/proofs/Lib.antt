pub mod PlainLemmas
mod Floors
pub mod Blamed
pub mod Runs
pub mod Latched
