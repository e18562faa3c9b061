mod Wrote
mod Writes
mod DaysKept
mod Qualified
mod Kept
mod ChangedTables
mod Changes
pub mod Steps
mod Lasting
