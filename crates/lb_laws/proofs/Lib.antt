pub mod Course
pub mod Determined
pub mod One
pub mod Reader
pub mod Reading
