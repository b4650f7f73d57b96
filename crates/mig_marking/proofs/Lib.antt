pub mod Ascending
pub mod Known
pub mod Marks
pub mod Zeros
