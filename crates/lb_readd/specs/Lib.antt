pub mod Choosing
pub mod Defining
pub mod Pieces
