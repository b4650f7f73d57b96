-- To read first, in this order: the status of a source at a round; the streams and their readings;
-- the rounds that they have together; the answer of a load on several channels.
pub mod Status
pub mod Texts
pub mod Rounds
pub mod MultiLoad
-- Then the items received of channels, and their meaning; how a round was dealt; the streams sent;
-- and the laws.
pub mod Received
pub mod Dealt
pub mod Sent
pub mod Law
pub mod Growing
-- Definitions of the calls that relays and sessions share
pub mod Told
pub mod Putting
