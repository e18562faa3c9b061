pub mod Keys
pub mod Loops
pub mod Masks
pub mod Selects
pub mod Tellings
