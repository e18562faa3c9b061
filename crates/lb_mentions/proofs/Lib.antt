pub mod Arms
pub mod Named
pub mod Nodes
pub mod Parts
pub mod Rules
pub mod Users
