pub mod Fault
pub mod Nodes
pub mod Pieces
pub mod Texts
pub mod steps
