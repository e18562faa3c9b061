pub mod Named
pub mod SmallForms
pub mod DifferentNames
