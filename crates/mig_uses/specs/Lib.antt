pub mod Backup
pub mod LiveGuest
pub mod Incoming
pub mod Comparison
pub mod Migration
pub mod ByTurns
pub mod Straight
