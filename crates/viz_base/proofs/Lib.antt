pub mod DecimalLemmas
pub mod ListLemmas
pub mod Sameness
pub mod Truths
