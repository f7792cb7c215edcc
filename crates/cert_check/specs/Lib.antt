pub mod Truths
pub mod Numbers
pub mod Leaves
pub mod Right
pub mod Verdicts
pub mod Bytes
pub mod Laws
pub mod steps
