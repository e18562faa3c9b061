mod Chosen
mod Doubled
mod Fit
mod Refusing
pub mod Framed
mod Left
pub mod Apart
pub mod Sessions
