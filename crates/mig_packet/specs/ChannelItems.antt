-- The items of a channel that has ended, which a relay passes on, one after another.
use Rattle.std.specs.Prelude.{◌≡◌, ℕ, true, List, [], ◌∷◌, ◌++◌, map, flat_map, Option, Some, None}
use Rattle.mig_packet.specs.declared.fault.ChannelFault.{ChannelFault}
use Rattle.mig_packet.specs.declared.state.ChannelState.{ChannelState}
use Rattle.mig_packet.specs.declared.state.ChannelState.TheVariants.{Reading, Closed, Bad}
use Rattle.mig_packet.specs.Packet.{Fields, fields_of}
use Rattle.mig_packet.specs.Progress.{ChannelProgress, start}
use Rattle.mig_packet.specs.Reading.{Reads, state_at, Settings}

-- an item: the id in the hello, the fields of a packet, or the stop, with the fault of a channel
-- that isn't closed
pub data ChannelItem : Type 0 where
  Hello : ℕ → ChannelItem
  Page : Fields → ChannelItem
  Stop : Option ChannelFault → ChannelItem

abbrev pub item_of_hello : Option ℕ → List ChannelItem
item_of_hello None = []
item_of_hello (Some id) = Hello id ∷ []

abbrev pub item_of_stop : ChannelState → List ChannelItem
item_of_stop Closed = Stop None ∷ []
item_of_stop (Bad fault) = Stop (Some fault) ∷ []
item_of_stop Reading = []

-- the packets of the complete rounds and of the open one, in the order of the channel
abbrev pub all_packets : ChannelProgress → List (List ℕ)
all_packets c = flat_map (λ round. round) c.rounds ++ c.packets

abbrev pub items_of : ChannelProgress → ChannelState → List ChannelItem
items_of c state = item_of_hello c.hello ++ map (λ packet. Page (fields_of c.page_size packet)) (all_packets c) ++ item_of_stop state

-- These are the items of a channel that has ended: its hello if that is in the front, each packet
-- of the front, then one stop.
pub record AreItems (given : Settings) (text : List ℕ) (items : List ChannelItem) : Type 0 where
  pub to : ChannelProgress
  pub rest : List ℕ
  pub found : ChannelState
  pub reads : Reads (start given.page_size given.uuid given.channels given.waiting) text to rest found
  pub has_items : items ≡ items_of to (state_at true to rest found)
