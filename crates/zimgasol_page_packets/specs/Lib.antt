-- The two kinds of packet by their first bytes, and a channel's bytes in two parts
pub mod Packets
pub mod Parted
-- A channel that is read in pieces, and the laws
pub mod Passing
pub mod Law
