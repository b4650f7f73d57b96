-- The packets of some pages
pub mod Packets
-- The main stream and channels that carry them
pub mod Packing
-- A sending of an empty round and a round of these pages
pub mod Dealt
