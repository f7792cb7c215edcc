pub mod Shelves
pub mod Brackets
pub mod Bands
pub mod Lent
