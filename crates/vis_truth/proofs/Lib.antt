pub mod Runs
pub mod Parts
pub mod Edges
pub mod Witnesses
pub mod Bounds
pub mod Blamed
pub mod PlainScenes
pub mod Views
