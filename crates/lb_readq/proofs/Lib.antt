pub mod Joins
pub mod Levels
pub mod Offsets
pub mod Queries
pub mod Rooms
pub mod Whole
pub mod Writes
