pub mod Passing
pub mod Changing
