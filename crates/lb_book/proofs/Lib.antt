pub mod Fewer
pub mod Gone
pub mod Growing
pub mod Keeping
