pub mod Lined
