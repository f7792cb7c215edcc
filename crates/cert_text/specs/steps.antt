pub mod Numbers
pub mod Parts
pub mod Read
pub mod Readers
pub mod Stream
pub mod Whole
pub mod Write
