pub mod Dated
pub mod Given
pub mod Laws
pub mod Statements
pub mod Masks
