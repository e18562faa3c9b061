pub mod Among
pub mod Conditions
pub mod Expressions
pub mod Inner
