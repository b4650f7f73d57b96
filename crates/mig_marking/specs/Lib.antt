pub mod Marking
pub mod Fresh
