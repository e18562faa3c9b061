pub mod Doubled
pub mod Loops
pub mod Nodes
pub mod Pages
pub mod Rules
