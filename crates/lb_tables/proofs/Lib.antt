pub mod Named
pub mod Passed
pub mod Same
