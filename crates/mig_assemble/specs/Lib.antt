-- To read first, in this order: why a round is refused, which rounds are lawful, the memory that a
-- load builds, and the laws.
pub mod Judging
pub mod Lawful
pub mod NamedPlaces
pub mod Target
pub mod Law
pub mod RoundFaultNumber
pub mod HeadPlaces
-- Private: only contracts of private functions name these.
pub mod Sorted
pub mod Seen
pub mod PacketPages
pub mod RoundList
pub mod Arrivals
pub mod AtOnce
