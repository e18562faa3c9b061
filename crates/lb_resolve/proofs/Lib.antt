mod Arms
mod Nodes
mod Rules
mod Stopping
mod Whole
mod Sources
