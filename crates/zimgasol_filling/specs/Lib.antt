-- Files that have a memory
pub mod Filled
