pub mod Splitting
pub mod Numbers
pub mod Forms
pub mod Reading
pub mod Endings
pub mod Faithful
pub mod Positions
pub mod Turns
pub mod Entries
pub mod Verdicts
pub mod Sendings
pub mod Filled
mod Made
