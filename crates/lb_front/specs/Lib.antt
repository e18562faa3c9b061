pub mod Scripted
pub mod Booked
pub mod Executed
pub mod Prepared
pub mod Headline
pub mod Running
