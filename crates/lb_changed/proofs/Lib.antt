pub mod Entries
pub mod Found
pub mod Rows
pub mod Stamps
pub mod Steps
