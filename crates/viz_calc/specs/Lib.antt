pub mod World
pub mod State
pub mod Run
pub mod Plain
pub mod Renderings
