-- The invariants of the two ends of a channel's queue.
use Rattle.std.specs.Prelude.{◌≡◌, ℕ, ◌≤◌, Bool, true, List, length, map, All, Option}
use Rattle.mig_packet.specs.PageSize.{IsPageSize}
use Rattle.mig_relay.specs.declared.cursor.Cursor.{Cursor}
use Rattle.mig_relay.specs.declared.item.Item.{Item}
use Rattle.mig_relay.specs.declared.log.Log.{Log}
use Rattle.mig_relay.specs.RelayItems.{as_channel_item, IsOfPageSize}
use Rattle.mig_relay.specs.Messages.{AreMessages, BeginsMessages}
use Rattle.mig_relay.specs.Queue.{feeding, collecting, items_in}
use Rattle.mig_relay.specs.Cursor.{text_of, IsBehind}

-- a feeder at this cursor, after `count` items, with a pass that knows this
pub record IsFeeding (k : Cursor) (text : List ℕ) (count : ℕ) (v : Log) : Type 0 where
  pub has_page_size : IsPageSize k.page_size
  pub within : k.at ≤ length text
  pub role : v ≡ feeding (text_of k text) v.done
  pub behind : IsBehind k text v.done
  pub counted : count ≡ length v.done

-- the end that collects, with these items, and a pass that knows this
pub record IsCollecting (page_size : ℕ) (waiting : Option ℕ) (text : List ℕ) (items : List Item) (over : Bool) (v : Log) : Type 0 where
  pub has_page_size : IsPageSize page_size
  pub of_page_size : v.source.page_size ≡ page_size
  pub of_waiting : v.source.waiting ≡ waiting
  pub of_text : v.source.text ≡ text
  pub role : v ≡ collecting v.source v.done
  pub has_items : map as_channel_item items ≡ items_in v
  pub of_size : All (IsOfPageSize page_size) items
  pub begun : BeginsMessages v.source v.done
  pub whole : over ≡ true → AreMessages v.source v.done
