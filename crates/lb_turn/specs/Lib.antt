pub mod Holding
pub mod Known
pub mod Laws
pub mod Lending
pub mod Passes
pub mod Rule
pub mod Steps
