-- The rounds that the main stream and the channels have together.
use Rattle.std.specs.Prelude.{ℕ, List, [], length, map, flat_map, get_or, sum_by, Option}
use Rattle.std.specs.List.{range_with_len}
use Rattle.std.specs.Option.{option_map, option_and_then}
use Rattle.mig_mem.specs.declared.place.Place.{Place}
use Rattle.mig_mem.specs.RamTable.{RamTable}
use Rattle.mig_mem.specs.PlaceSet.{PlaceSet}
use Rattle.mig_mem.specs.Image.{Page, Image}
use Rattle.mig_mem.specs.Round.{after}
use Rattle.mig_stream.specs.PageRecord.{page_of}
use Rattle.mig_packet.specs.Packet.{Fields, fields_of}
use Rattle.mig_packet.specs.Reading.{ChannelReading}
use Rattle.mig_assemble.specs.declared.fault.RoundFault.{RoundFault}
use Rattle.mig_assemble.specs.Judging.{refusal, all_round_pages}
use Rattle.mig_assemble.specs.NamedPlaces.{places_in, named_by, missing_of}
use Rattle.mig_answer.specs.Texts.{Readings}

-- the pages of the main stream's records of round k; none, if it doesn't have that round (a round
-- is judged only if all sources have it)
abbrev pub record_pages_at : ℕ → ℕ → Readings → List Page
record_pages_at page_size k readings = map (page_of page_size) (get_or readings.main.rounds k [])

-- the fields of a channel's packets of round k
abbrev pub channel_packets_at : ℕ → ℕ → ChannelReading → List Fields
channel_packets_at page_size k reading = map (fields_of page_size) (get_or reading.rounds k [])

-- the fields of the packets of all channels' round k
abbrev pub packets_at : ℕ → ℕ → Readings → List Fields
packets_at page_size k readings = flat_map (channel_packets_at page_size k) readings.channels

-- how many packets all channels have of round k
abbrev pub packet_count_at : ℕ → Readings → ℕ
packet_count_at k readings = sum_by (λ reading. length (get_or reading.rounds k [])) readings.channels

-- the least number of a packet of round k: how many packets there are of the rounds before
abbrev pub base_at : ℕ → Readings → ℕ
base_at k readings = sum_by (λ i. packet_count_at i readings) (range_with_len 0 k)

-- why round k of a table is refused, None if it is lawful
abbrev pub refusal_of : RamTable → ℕ → Readings → Option RoundFault
refusal_of table k readings = refusal table (base_at k readings) (record_pages_at table.page_size k readings) (packets_at table.page_size k readings)

-- why round k of the main stream's table is refused; no round is, if there is no table
abbrev pub refusal_at : ℕ → Readings → Option RoundFault
refusal_at k readings = option_and_then (λ table. refusal_of table k readings) readings.main.table

-- the pages of round k of a table
abbrev pub pages_at : RamTable → ℕ → Readings → List Page
pages_at table k readings = all_round_pages table (record_pages_at table.page_size k readings) (packets_at table.page_size k readings)

-- the memory after the first k rounds, None if the size list isn't complete
abbrev pub memory_at : ℕ → Readings → Option Image
memory_at k readings = option_map (λ table. after table (map (λ i. pages_at table i readings) (range_with_len 0 k))) readings.main.table

-- ---- the pages that rounds name

-- the places of all pages of the first k rounds
abbrev pub places_in_rounds : RamTable → ℕ → Readings → List Place
places_in_rounds table k readings = places_in (map (λ i. pages_at table i readings) (range_with_len 0 k))

-- the set of these places, None if the size list isn't complete
abbrev pub named_at : ℕ → Readings → Option PlaceSet
named_at k readings = option_map (λ table. named_by table (map (λ i. pages_at table i readings) (range_with_len 0 k))) readings.main.table

-- how many pages of the table the first k rounds don't name
abbrev pub missing_after : RamTable → ℕ → Readings → ℕ
missing_after table k readings = missing_of table (map (λ i. pages_at table i readings) (range_with_len 0 k))

-- how many pages of the main stream's table they don't name, None if the size list isn't complete
abbrev pub missing_at : ℕ → Readings → Option ℕ
missing_at k readings = option_map (λ table. missing_after table k readings) readings.main.table
