-- To read first: the statuses and their messages; the text of a fault; a table as C passes it;
-- bytes that are copied to the front of a buffer; streams with a machine's name; then what a sender
-- of one stream and one on several channels have sent, and what their calls do; packets of pages
-- that C passes, and heads of packets whose pages C sends; a send of either kind; hellos and
-- packets
pub mod Status
pub mod Texts
pub mod FaultTexts
pub mod Blocks
pub mod Front
pub mod Named
pub mod Sending
pub mod Multi
pub mod Copied
pub mod Heads
pub mod Send
pub mod Packets
