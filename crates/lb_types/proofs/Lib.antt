pub mod Arms
pub mod Clauses
pub mod Forms
pub mod JoinSteps
pub mod Outputs
pub mod Pairs
pub mod Rules
pub mod Steps
