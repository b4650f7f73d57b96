pub mod Lengths
pub mod Runs
pub mod Fronts
pub mod Pages
pub mod Turns
