pub mod Allowed
pub mod Beside
pub mod BoxLengths
pub mod StyleFacts
pub mod Reaching
pub mod Fitting
