pub mod Adding
pub mod Components
pub mod Dropped
pub mod Numbering
pub mod Parts
pub mod Tests
