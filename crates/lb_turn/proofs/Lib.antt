pub mod Dividing
mod Kept
mod Live
pub mod Places
mod Queue
pub mod Uses
mod Views
