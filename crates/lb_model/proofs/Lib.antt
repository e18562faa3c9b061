pub mod Longer
pub mod Roots
pub mod Sectioned
pub mod Sessions
pub mod Telling
pub mod There
