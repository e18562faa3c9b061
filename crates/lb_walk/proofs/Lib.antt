pub mod Arms
pub mod Joins
pub mod Opens
pub mod OwnParts
pub mod OwnQueries
