pub mod Journal
pub mod Parts
