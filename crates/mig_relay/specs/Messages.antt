-- The items of a channel as offsets in its bytes, which pass through the channel's queue.
use Rattle.std.specs.Prelude.{◌≡◌, ℕ, ◌+◌, ◌≤◌, Bool, true, false, List, [], ◌∷◌, ◌++◌, length, take, drop, Option, None, Some, ⊤}
use Rattle.mig_packet.specs.declared.state.ChannelState.{ChannelState}
use Rattle.mig_packet.specs.declared.state.ChannelState.TheVariants as state
use Rattle.mig_packet.specs.Hello.{hello_len}
use Rattle.mig_packet.specs.Packet.{fields_of, IsPacketText}
use Rattle.mig_packet.specs.Progress.{ChannelProgress, start}
use Rattle.mig_packet.specs.Reading.{Reads, state_at}
use Rattle.mig_packet.specs.ChannelItems.{ChannelItem, Hello, Page, Stop, all_packets}
use Rattle.mig_relay.specs.declared.item.ChannelEnd.TheVariants.{Clean, Bad}
use Rattle.mig_relay.specs.declared.log.ChannelText.{ChannelText}
use Rattle.mig_relay.specs.declared.message.Message.{Message}
use Rattle.mig_relay.specs.declared.message.Message.TheVariants as message
use Rattle.mig_relay.specs.RelayItems.{end_fault}

-- the item that a message represents
abbrev pub item_in : ℕ → List ℕ → Message → ChannelItem
item_in page_size text (message.Hello id) = Hello id
item_in page_size text (message.Page at len) = Page (fields_of page_size (take len (drop at text)))
item_in page_size text (message.Stop end) = Stop (end_fault end)

abbrev pub item_of_message : ChannelText → Message → ChannelItem
item_of_message source message = item_in source.page_size source.text message

-- ---- the messages of a channel that has ended

abbrev pub hello_message : Option ℕ → List Message
hello_message None = []
hello_message (Some id) = message.Hello id ∷ []

-- packets one after another, from an offset on
abbrev pub places : ℕ → List (List ℕ) → List Message
places at [] = []
places at (packet ∷ packets) = message.Page at (length packet) ∷ places (at + length packet) packets

abbrev pub stop_message : ChannelState → List Message
stop_message state.Closed = message.Stop Clean ∷ []
stop_message (state.Bad fault) = message.Stop (Bad fault) ∷ []
stop_message state.Reading = []

-- those of a front: its hello, and its packets after it
abbrev pub front_messages : ChannelProgress → List Message
front_messages c = hello_message c.hello ++ places hello_len (all_packets c)

-- These are the channel's messages: its hello if that is in the front, each packet of the front,
-- then one stop.
pub record AreMessages (source : ChannelText) (messages : List Message) : Type 0 where
  pub to : ChannelProgress
  pub rest : List ℕ
  pub found : ChannelState
  pub reads : Reads (start source.page_size source.uuid source.channels source.waiting) source.text to rest found
  pub has_messages : messages ≡ front_messages to ++ stop_message (state_at true to rest found)

-- the channel's messages begin with these
abbrev pub BeginsMessages : ChannelText → List Message → Type 0
BeginsMessages source front = (more : List Message) × AreMessages source (front ++ more)

-- ---- one message

-- the message's bytes are in the channel, and are a packet
abbrev pub IsMessageIn : ℕ → List ℕ → Message → Type 0
IsMessageIn page_size text (message.Hello id) = ⊤
IsMessageIn page_size text (message.Page at len) = (at + len ≤ length text) × IsPacketText page_size (take len (drop at text))
IsMessageIn page_size text (message.Stop end) = ⊤

-- nothing follows it
abbrev pub is_last : Message → Bool
is_last (message.Hello id) = false
is_last (message.Page at len) = false
is_last (message.Stop end) = true
