pub mod Words
pub mod Files
pub mod Run
pub mod Headline
pub mod steps
