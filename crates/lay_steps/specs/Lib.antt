pub mod Order
pub mod Runs
pub mod Forward
pub mod Flow
pub mod Progress
pub mod Tables
