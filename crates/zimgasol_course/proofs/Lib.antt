mod Taking
pub mod Seeing
mod Reading
