pub mod Cached
pub mod Content
pub mod Grown
pub mod Leaving
pub mod Stands
pub mod Taken
