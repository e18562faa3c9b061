pub mod Scanned
pub mod Pieced
pub mod Worded
pub mod Sectioned
pub mod Mapped
pub mod Appended
