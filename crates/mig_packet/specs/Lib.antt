-- To read first, in this order: a hello, a packet, what a packet counts toward the limit on packets
-- that wait, and the packet that is written for some fields.
pub mod PageSize
pub mod Fields
pub mod Faults
pub mod Hello
pub mod Packet
pub mod PacketHead
pub mod Waiting
pub mod Written
pub mod Lent
pub mod FaultNumber
-- Then the hello or packet at the beginning of bytes, how a channel's bytes are read, what a reader
-- of them represents, and the laws.
pub mod FrontRead
pub mod Progress
pub mod Reading
pub mod Reader
pub mod Paging
pub mod Wanted
pub mod NextHead
pub mod ChannelItems
pub mod Law
-- Private: only contracts of private functions name these.
pub mod Taking
pub mod Later
pub mod Filling
pub mod PagingStep
pub mod PagingValid
