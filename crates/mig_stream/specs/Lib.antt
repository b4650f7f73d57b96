-- Read these first, in this order.
pub mod Format
pub mod Fields
pub mod PageRecord
pub mod Progress
pub mod Items
pub mod Reading
pub mod Text
pub mod Machine
pub mod Written
pub mod MachineWritten
pub mod Writer
pub mod Round
pub mod Reader
pub mod Giving
pub mod Report
pub mod Wanted
pub mod Law
pub mod Flushed
pub mod Limited
pub mod Shown
pub mod FaultNumber
-- The values that reading keeps, and how it goes back. Only private contracts cite these.
pub mod Taking
pub mod Entries
pub mod Later
pub mod Kept
