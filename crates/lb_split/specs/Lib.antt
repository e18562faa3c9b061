pub mod Lexing
pub mod Pieces
pub mod Headers
pub mod Scripts
pub mod Sections
