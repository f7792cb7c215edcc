pub mod Placings
pub mod Contents
