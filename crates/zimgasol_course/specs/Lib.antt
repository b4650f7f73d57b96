pub mod Course
pub mod Seen
