pub mod Zips
pub mod Steps
pub mod Due
pub mod First
