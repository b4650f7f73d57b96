mod Lists
pub mod Dealt
mod Steps
