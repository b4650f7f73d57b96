pub mod Lawful
pub mod Parting
