pub mod Passed
pub mod Tokened
pub mod Quits
pub mod Firsts
