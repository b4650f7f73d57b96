pub mod FirstPages
pub mod Written
pub mod ReadBack
pub mod Runs
