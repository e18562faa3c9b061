pub mod Again
pub mod Chosen
pub mod First
pub mod Texts
pub mod Trees
pub mod Within
