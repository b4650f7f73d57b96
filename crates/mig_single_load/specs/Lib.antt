-- Read first: the answer of a load of a single stream
pub mod SingleLoad
-- Loads that are fed in pieces: into a memory of their own, and into one that exists already, each
-- page written when its bytes have come
pub mod Loader
pub mod InPlace
pub mod LoadInPlace
-- The load of what a sender wrote of RAM in a machine's stream
pub mod MachineSent
-- What such a load's stream has next, for a caller who reads it straight to where it belongs
pub mod ComesNext
