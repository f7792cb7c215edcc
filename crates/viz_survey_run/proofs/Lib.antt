pub mod WordLemmas
pub mod FileLemmas
pub mod HeadlineLemmas
