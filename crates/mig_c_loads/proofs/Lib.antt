pub mod HeldBlocks
pub mod Moved
pub mod LentBlocks
pub mod PageReads
pub mod PageTakes
mod RoundsFed
mod LeftOut
mod NotedPages
pub mod Headline
