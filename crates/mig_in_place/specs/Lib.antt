-- Read first, in this order: the places that a round names so far; the answer of a load in place;
-- the pages that no round named; what an `InPlaceSession` represents; the laws
pub mod Named
pub mod Answer
pub mod Missing
pub mod Session
pub mod WholeRounds
pub mod Law
-- A packet that is taken at once, whose pages others read to their places
pub mod TakenPackets
pub mod Apart
-- Turns of sources, whose bytes wait in buffers
pub mod Turns
pub mod TurnFaultNumber
-- Private: the values kept of the current round, and of the sources
pub mod Round
pub mod Sources
