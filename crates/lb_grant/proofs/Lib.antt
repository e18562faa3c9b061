pub mod Exempting
pub mod Found
pub mod Holders
pub mod Labels
pub mod Leaving
pub mod Revoking
