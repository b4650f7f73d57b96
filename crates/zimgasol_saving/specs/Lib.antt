-- The pages that are sent
pub mod Sent
-- The stream of them
pub mod Written
-- The blocks
pub mod Blocks
-- A main stream and channels
pub mod Channels
