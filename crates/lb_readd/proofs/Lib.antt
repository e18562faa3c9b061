mod Altered
pub mod Choice
pub mod Controls
pub mod Defined
pub mod Flags
pub mod Folded
mod Joined
mod Labels
pub mod Rooms
pub mod Runs
mod Tables
