pub mod Files
pub mod Pieces
pub mod Kept
pub mod Renewals
pub mod steps
