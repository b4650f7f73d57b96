pub mod Sections
mod Feeding
pub mod Onto
mod LoadedAtOnce
pub mod LoadsInPlace
pub mod ComesNext
pub mod MachineSent
