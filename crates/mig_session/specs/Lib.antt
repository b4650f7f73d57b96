-- Read first: the state of a session that callers see. Then, private, what it keeps while it runs:
-- what the bytes of each source say, those that wait, and the load.
pub mod Session
pub mod Scan
pub mod Sources
pub mod Loading
-- Laws of any session
pub mod Law
pub mod Ahead
-- Private: how a session advances
pub mod Advancing
-- Pumps, which feed a session what they read
pub mod Pumping
pub mod PumpFaultNumber
