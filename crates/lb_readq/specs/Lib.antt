pub mod Judging
pub mod Levels
pub mod Queries
