pub mod steps
pub mod Grammar
pub mod Laws
pub mod Pieces
pub mod Texts
pub mod Tokens
pub mod Words
