mod Blanks
pub mod Joined
