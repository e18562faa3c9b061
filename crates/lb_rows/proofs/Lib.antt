pub mod Edited
pub mod Halves
pub mod Mapped
pub mod Placed
pub mod There
pub mod Untouched
