pub mod Grants
pub mod LabelNames
pub mod Names
pub mod Runs
