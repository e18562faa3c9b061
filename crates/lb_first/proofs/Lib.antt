pub mod First
pub mod Changing
