pub mod Ahead
mod Scanning
pub mod MainScanning
pub mod Parts
pub mod Settling
pub mod FedSources
pub mod Advances
pub mod Sessions
pub mod Rounds
mod Pumped
