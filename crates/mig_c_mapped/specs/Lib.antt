-- Read these first, in this order.
pub mod Loads
pub mod Runs
pub mod Law
pub mod Sends
