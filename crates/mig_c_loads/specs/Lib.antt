-- To read first: a fault as C sees it, and what C passes to a load beside its streams; then the
-- table of a stream's first bytes, blocks that were zeros, a load of one stream into blocks, with
-- each page as it comes and by whole sections, and a load of several channels into blocks: one
-- whose pages C may read to their places, and one by whole rounds; and last a load of each kind,
-- and what C reads of it.
pub mod Found
pub mod Frames
pub mod FirstTable
pub mod ZeroBlocks
pub mod InPlace
pub mod NextBytes
pub mod OneStream
pub mod BySections
pub mod InPlaceSessions
pub mod Filling
pub mod Apart
pub mod ByRounds
pub mod Loads
pub mod Standing
-- Then the law on what C's senders sent
pub mod Headline
