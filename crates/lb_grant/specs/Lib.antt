pub mod Exempting
pub mod Labelling
