pub mod Statuses
pub mod OneAnswer
pub mod Never
mod OneRoundEnd
mod Examples
pub mod Judged
pub mod Received
pub mod ReceivedTogether
pub mod ReceivedSteps
pub mod DealtBags
mod DealtPackets
mod DealtPages
mod Dealt
pub mod Sent
pub mod SentRounds
pub mod Headline
pub mod SentWithin
mod TwicePages
pub mod ToldSources
pub mod NamedRounds
pub mod Putting
pub mod Hellos
pub mod GrowingChannels
pub mod GrowingMain
pub mod Growing
