pub mod Pairs
pub mod Sames
