pub mod Before
pub mod Faults
