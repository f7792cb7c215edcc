pub mod Advances
pub mod SizeWays
pub mod SmallNumbers
pub mod SmallFonts
pub mod SmallExtents
pub mod SmallTexts
