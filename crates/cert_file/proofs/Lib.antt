pub mod Parsing
pub mod Faults
pub mod UpTos
pub mod ReadLemmas
