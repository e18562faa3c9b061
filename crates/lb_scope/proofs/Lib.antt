pub mod FromTables
mod Heads
mod Levels
