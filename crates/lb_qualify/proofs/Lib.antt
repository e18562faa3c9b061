mod Arms
mod Nodes
mod Rules
