-- Read these first, in this order.
pub mod Bitmap
pub mod Block
pub mod Head
pub mod Reading
pub mod Index
pub mod Load
pub mod Write
pub mod Front
pub mod FrontParts
pub mod Law
pub mod FaultNumber
