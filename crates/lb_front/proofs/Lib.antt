pub mod Begun
pub mod Committed
pub mod Sections
pub mod Sessions
pub mod Shut
pub mod Words
