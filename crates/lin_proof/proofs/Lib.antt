pub mod Sound
mod Cancelling
mod ClosingSums
mod Divisors
pub mod Cuts
pub mod Merges
pub mod Opposites
pub mod Sums
pub mod Values
pub mod Whole
