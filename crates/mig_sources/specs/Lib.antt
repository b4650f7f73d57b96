-- Read first: the sources of a load, the counts of their bytes and the steps of their streams.
pub mod Sources
-- What one source's bytes say, and when a round of all of them is due
pub mod Faults
pub mod Due
-- Readers of pieces
pub mod Reads
