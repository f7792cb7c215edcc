pub mod Parts
pub mod Seeks
pub mod FirstWorlds
pub mod FirstUntrue
pub mod Causes
pub mod Bounded
pub mod NarrowWorlds
pub mod Texts
pub mod Leaves
pub mod Descents
pub mod Places
pub mod PartSides
pub mod GridWorlds
pub mod Judging
pub mod Tellings
pub mod FitFloors
pub mod PlainUnits
mod ByPieces
mod Findings
mod Turns
