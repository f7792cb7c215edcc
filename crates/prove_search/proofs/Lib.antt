pub mod Halving
pub mod Texts
pub mod Closing
pub mod Proved
pub mod Lemmas
pub mod Counts
pub mod Judged
