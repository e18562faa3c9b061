pub mod Causes
pub mod Inputs
pub mod Memory
pub mod Reading
pub mod Statuses
pub mod Told
