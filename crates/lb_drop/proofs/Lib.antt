pub mod Gone
pub mod Users
