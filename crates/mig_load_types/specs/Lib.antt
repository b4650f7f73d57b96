-- Read first: the settings that a caller passes to a load, and those of its streams' readers
pub mod Settings
-- The numbers of the faults of every load
pub mod LoadFaultNumber
