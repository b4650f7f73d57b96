pub mod Blocks
pub mod Vectors
pub mod Zeros
