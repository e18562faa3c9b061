pub mod Among
pub mod Combined
pub mod Joined
pub mod Languages
pub mod ListLoop
pub mod Repeats
pub mod Sets
pub mod Tokens
