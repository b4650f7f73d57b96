pub mod Values
pub mod Handles
pub mod Crosses
