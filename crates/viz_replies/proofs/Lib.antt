pub mod LineLemmas
pub mod PartLemmas
pub mod SearchLemmas
pub mod ReplyLemmas
pub mod HeadlineLemmas
pub mod Joins
pub mod RawRanges
pub mod PartTruths
