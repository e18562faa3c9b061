pub mod Bracketed
pub mod Expressions
