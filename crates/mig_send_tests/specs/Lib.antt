pub mod Slots
pub mod Stepped
