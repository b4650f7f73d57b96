-- Read first, in this order: the rounds sent on a single stream, the batches of a round, their
-- packets, one worker's draws, the sink that it fills with its packets, and the dealing that
-- workers make together. Then rounds that are dealt over several channels, what their streams are
-- read as, and the sender of these. Last the workers of a round, a worker that its caller steps,
-- how it finds its batches, its steps over different memories, and the round of such workers.
pub mod Sending
pub mod Batches
pub mod Packing
pub mod Work
pub mod Sink
pub mod Dealing
pub mod DealtRounds
pub mod ReadBack
pub mod MultiSending
pub mod Workers
pub mod ChannelWork
pub mod Finding
pub mod Copies
pub mod Heads
pub mod MultiRound
pub mod SendFaultNumber
