-- To read first, in this order: a channel's items and the two ends of its queue, what the ends
-- promise, and the answer of a load of a relay's items.
pub mod RelayItems
pub mod Relay
pub mod Relayed
pub mod Multi
-- Private: messages in a queue under a rule, and the invariants of the two ends
pub mod Messages
pub mod Queue
pub mod Cursor
pub mod Ends
