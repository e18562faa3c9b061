pub mod Parts
pub mod Seeking
