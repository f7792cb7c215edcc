pub mod Descent
pub mod Grids
pub mod Stream
pub mod Tells
pub mod Worlds
pub mod Ways
pub mod Narrow
