-- The load of a single stream by whole sections
pub mod Sections
