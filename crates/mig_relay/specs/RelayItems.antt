-- The items of each channel, which a relay passes on, as its contracts see them.
use Rattle.std.specs.Prelude.{◌≡◌, ℕ, List, [], ◌∷◌, ◌++◌, Option, None, Some, ⊤}
use Rattle.atomic_table.specs.Seated.{TableId}
use Rattle.mig_packet.specs.declared.fault.ChannelFault.{ChannelFault}
use Rattle.mig_packet.specs.Reading.{Settings}
use Rattle.mig_packet.specs.Lent.{fields}
use Rattle.mig_packet.specs.ChannelItems.{ChannelItem, Hello, Page, Stop, AreItems}
use Rattle.mig_relay.specs.declared.item.ChannelEnd.{ChannelEnd}
use Rattle.mig_relay.specs.declared.item.ChannelEnd.TheVariants.{Clean, Bad}
use Rattle.mig_relay.specs.declared.item.Item.{Item}
use Rattle.mig_relay.specs.declared.item.Item.TheVariants as item
use Rattle.mig_relay.specs.declared.log.ChannelText.{ChannelText}

-- ---- items as items

abbrev pub end_fault : ChannelEnd → Option ChannelFault
end_fault Clean = None
end_fault (Bad fault) = Some fault

abbrev pub as_channel_item : Item → ChannelItem
as_channel_item (item.Hello id) = Hello id
as_channel_item (item.Page packet) = Page (fields packet)
as_channel_item (item.Stop end) = Stop (end_fault end)

-- the page size of the item, if it is a packet
abbrev pub IsOfPageSize : ℕ → Item → Type 0
IsOfPageSize page_size (item.Hello id) = ⊤
IsOfPageSize page_size (item.Page packet) = packet.page_size ≡ page_size
IsOfPageSize page_size (item.Stop end) = ⊤

-- ---- the items of a channel that has ended

-- its bytes, and how they are read
abbrev pub with_settings : Settings → List ℕ → ChannelText
with_settings given text = record { page_size = given.page_size; uuid = given.uuid; channels = given.channels; waiting = given.waiting; text = text }

abbrev pub given : ChannelText → Settings
given source = record { page_size = source.page_size; uuid = source.uuid; channels = source.channels; waiting = source.waiting }

-- these are the channel's items
abbrev pub HasItems : ChannelText → List ChannelItem → Type 0
HasItems source items = AreItems (given source) source.text items

-- the channel's items begin with these
abbrev pub BeginsItems : ChannelText → List ChannelItem → Type 0
BeginsItems source front = (more : List ChannelItem) × HasItems source (front ++ more)

-- ---- the two ends of a channel's queue

-- one of them: which queue its pass is of, the channel, and the items that the pass has pushed or
-- popped
pub record QueueEnd : Type 0 where
  pub queue : TableId
  pub source : ChannelText
  pub passed : List ChannelItem

abbrev pub queue_end : TableId → ChannelText → List ChannelItem → QueueEnd
queue_end queue source passed = record { queue = queue; source = source; passed = passed }

-- with one more item that was pushed or popped
abbrev pub one_more : QueueEnd → ChannelItem → QueueEnd
one_more p next_item = queue_end p.queue p.source (p.passed ++ next_item ∷ [])

-- all items were pushed or popped, the stop too
abbrev pub IsThrough : QueueEnd → Type 0
IsThrough p = HasItems p.source p.passed

-- a further item is left
abbrev pub IsOnTheWay : QueueEnd → Type 0
IsOnTheWay p = (next_item : ChannelItem) × BeginsItems p.source (p.passed ++ next_item ∷ [])
