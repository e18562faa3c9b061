pub mod Makeable
