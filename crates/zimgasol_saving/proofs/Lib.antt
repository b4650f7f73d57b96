mod SentPages
mod Streams
mod BlockSteps
mod ChannelSteps
