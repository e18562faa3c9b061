pub mod Separator
