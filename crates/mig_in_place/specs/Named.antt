-- The places that a round names so far: those of its page records, and those of the pages of each
-- packet whose head has arrived.
use Rattle.std.specs.Prelude.{ℕ, ◌≢◌, ◌⊎◌, ◌&&◌, if◌then◌else◌, nat_le, is_none, IsTrue, List, [], ◌∷◌, ◌++◌, length, map, get_or, Option, Some, None, Contains}
use Rattle.std.specs.List.{flat_map}
use Rattle.mig_mem.specs.declared.place.Place.{Place}
use Rattle.mig_mem.specs.RamTable.{RamTable}
use Rattle.mig_mem.specs.Place.{has_place}
use Rattle.mig_stream.specs.Reading as stream
use Rattle.mig_packet.specs.PageSize.{head_len}
use Rattle.mig_packet.specs.Packet.{fields_of}
use Rattle.mig_packet.specs.Progress.{ChannelProgress, due_fault}
use Rattle.mig_packet.specs.Reading as channel
use Rattle.mig_assemble.specs.Judging.{places_of}
use Rattle.mig_assemble.specs.Arrivals.{OnePacket, arrival_pages}
use Rattle.mig_load_types.specs.Settings.{main_of, channel_of}
use Rattle.mig_load_types.specs.declared.settings.LoadSettings.{LoadSettings}
use Rattle.mig_answer.specs.Texts.{Text, Texts}

-- the records or packets of round k so far: all of them, or, if it is the open round, those read so
-- far
abbrev pub round_so_far : {X : Type 0} → ℕ → List (List X) → List X → List X
round_so_far k rounds in_hand = get_or rounds k in_hand

-- The main stream has a record of this place in round k.
pub record MainNames (given : stream.Settings) (k : ℕ) (text : List ℕ) (p : Place) : Type 0 where
  pub reading : stream.StreamReading
  pub is_reading : stream.IsReading given text reading
  pub has_record : IsTrue (has_place (map (λ r. r.place) (round_so_far k reading.rounds is_reading.to.records)) p)

-- the packet whose head has arrived without a fault, while pages are missing: the bytes after the
-- complete packets
abbrev pub begun : ChannelProgress → Option ℕ → List ℕ → List (List ℕ)
begun c None rest = []
begun c (Some id) rest = if nat_le (head_len c.page_size) (length rest) && is_none (due_fault c rest) then rest ∷ [] else []

-- the places of a packet's pages, which its head names; none if a page is misplaced
abbrev pub packet_places : RamTable → List ℕ → List Place
packet_places table packet = places_of (arrival_pages table (OnePacket (fields_of table.page_size packet)))

-- The channel has a packet with a page of this place, whose head arrived in round k.
pub record ChannelNames (given : channel.Settings) (table : RamTable) (k : ℕ) (text : Text) (p : Place) : Type 0 where
  pub reading : channel.ChannelReading
  pub is_reading : channel.IsReading given text.bytes text.ended reading
  pub has_packet : IsTrue (has_place (flat_map (packet_places table)
      (round_so_far k reading.rounds (is_reading.to.packets ++ begun is_reading.to is_reading.to.hello is_reading.rest))) p)

-- The channel has a packet whose head arrived in round k.
pub record HasPacket (given : channel.Settings) (k : ℕ) (text : Text) : Type 0 where
  pub reading : channel.ChannelReading
  pub is_reading : channel.IsReading given text.bytes text.ended reading
  pub has_packet : round_so_far k reading.rounds (is_reading.to.packets ++ begun is_reading.to is_reading.to.hello is_reading.rest) ≢ []

abbrev pub SomeHasPacket : channel.Settings → ℕ → List Text → Type 0
SomeHasPacket given k texts = (text : Text) × Contains texts text × HasPacket given k text

abbrev pub SomeChannelNames : channel.Settings → RamTable → ℕ → List Text → Place → Type 0
SomeChannelNames given table k texts p = (text : Text) × Contains texts text × ChannelNames given table k text p

-- A source names the place in round k.
abbrev pub IsNamed : LoadSettings → List ℕ → RamTable → ℕ → Texts → Place → Type 0
IsNamed given uuid table k texts p =
    MainNames (main_of given) k texts.main.bytes p
    ⊎ SomeChannelNames (channel_of given uuid (length texts.channels)) table k texts.channels p
