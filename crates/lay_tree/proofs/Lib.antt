pub mod Containers
pub mod Definite
pub mod Kids
pub mod ContentLemmas
