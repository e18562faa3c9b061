pub mod Stored
pub mod Leaves
pub mod Found
pub mod Texts
pub mod Shapes
