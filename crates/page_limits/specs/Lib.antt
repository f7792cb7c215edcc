pub mod Bounds
pub mod Inline
pub mod Rises
pub mod Boxes
pub mod Loads
pub mod Raises
pub mod InlineSizes
pub mod Tall
