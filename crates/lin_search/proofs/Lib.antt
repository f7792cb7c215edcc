mod TermSums
mod Walks
