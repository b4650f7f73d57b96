-- Read these first, in this order.
pub mod Delta
pub mod Reading
pub mod Law
