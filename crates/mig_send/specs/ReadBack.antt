-- The readings of a sending's streams.
use Rattle.std.specs.Prelude.{ℕ, ◌≡◌, ◌<◌, ◌≤◌, ◌^◌, ◌*◌, true, false, List, [], ◌∷◌, ◌++◌, length, map, flat_map, replicate, get_or, Option, Some, None, IfSome}
use Rattle.mig_mem.specs.RamTable.{RamTable, IsTable, block}
use Rattle.mig_mem.specs.Image.{Image, IsImage}
use Rattle.mig_mem.specs.Round.{round_of}
use Rattle.mig_stream.specs.declared.item.Frame.TheVariants.{Machine}
use Rattle.mig_stream.specs.declared.item.Mode.TheVariants.{Main}
use Rattle.mig_stream.specs.Format.{most_name_bytes}
use Rattle.mig_stream.specs.Text.{total_bytes}
use Rattle.mig_stream.specs.Reading as stream
use Rattle.mig_stream.specs.Law.{closed}
use Rattle.mig_stream.specs.Written.{main}
use Rattle.mig_packet.specs.declared.state.ChannelState.TheVariants.{Closed}
use Rattle.mig_packet.specs.Packet.{Fields, fields_of}
use Rattle.mig_packet.specs.Reading.{ChannelReading, IsReading, settings}
use Rattle.mig_packet.specs.ChannelItems.{ChannelItem, Hello, Page, Stop, AreItems}
use Rattle.mig_send.specs.Batches.{BatchOfPages, IsBatch, batch_places}
use Rattle.mig_send.specs.Packing.{packed_of, normals_of, zeros_of, offsets_of}
use Rattle.mig_send.specs.Work.{Share, claimed_packet}
use Rattle.mig_send.specs.Dealing.{sync_packet}
use Rattle.mig_send.specs.DealtRounds.{DealtRound, IsSending, IsMachineSending, no_share}

-- ---- channels

-- the packets of a share, each as its bytes: those that its numbers claim, in their order, and a
-- SYNC packet of its last number
abbrev pub share_packets : ℕ → Image → List BatchOfPages → Share → List (List ℕ)
share_packets base image batches share =
    map (λ number. (claimed_packet base image batches number).bytes) share.numbers ++ sync_packet image.table.page_size share.last ∷ []

-- the packets of a round that a channel carries
abbrev pub round_packets : ℕ → DealtRound → List (List ℕ)
round_packets channel round = share_packets round.base round.snapshot.image round.batches (get_or round.shares channel no_share)

-- the reading of a complete channel: its own number in its hello, the packets of each round, and
-- that it is closed
abbrev pub channel_told : List DealtRound → ℕ → ChannelReading
channel_told rounds channel = record { hello = Some channel; rounds = map (round_packets channel) rounds; state = Closed }

-- and its items: the hello, the fields of each packet, one after another, and a stop without a
-- fault
abbrev pub channel_items : ℕ → List DealtRound → ℕ → List ChannelItem
channel_items page_size rounds channel =
    Hello channel ∷ map (λ packet. Page (fields_of page_size packet)) (flat_map (round_packets channel) rounds) ++ Stop None ∷ []

-- ---- the law

-- The streams of a sending are read back: the main stream as its table and as many rounds without a
-- record, and each channel as the packets that it carries of each round.
pub record AreReadBack (table : RamTable) (uuid : List ℕ) (channels : ℕ) (rounds : List DealtRound) (main_text : List ℕ) (texts : List (List ℕ)) : Type 0 where
  pub main_is_read : (limit : ℕ) → total_bytes table ≤ limit
      → stream.IsReading (stream.settings Main table.page_size limit) main_text (closed table (replicate (length rounds) []))
  pub channels_are_read : (channel : ℕ) → channel < channels
      → IsReading (settings table.page_size uuid channels) (get_or texts channel []) true (channel_told rounds channel)
  pub have_items : (channel : ℕ) → channel < channels
      → AreItems (settings table.page_size uuid channels) (get_or texts channel []) (channel_items table.page_size rounds channel)

abbrev pub SendingsAreReadBack : Type 0
SendingsAreReadBack = (table : RamTable) (uuid : List ℕ) (limit channels : ℕ) (rounds : List DealtRound) (main_text : List ℕ) (texts : List (List ℕ))
    → IsSending table uuid limit channels rounds main_text texts → AreReadBack table uuid channels rounds main_text texts

-- So are those whose main stream is a machine's: it is read in a machine's frame as its table and
-- as many rounds without a record, whatever follows RAM's END.
abbrev pub MachineSendingsAreReadBack : Type 0
MachineSendingsAreReadBack = (name : Option (List ℕ)) (table : RamTable) (uuid : List ℕ) (limit channels : ℕ) (rounds : List DealtRound) (main_text : List ℕ) (texts : List (List ℕ))
    → IfSome name (λ bytes. length bytes ≤ most_name_bytes) → IsMachineSending name table uuid limit channels rounds main_text texts
    → ((most : ℕ) (rest : List ℕ) → total_bytes table ≤ most
    → stream.IsReading (stream.in_frame Machine (stream.settings Main table.page_size most)) (main_text ++ rest) (closed table (replicate (length rounds) [])))
    × AreReadBack table uuid channels rounds (main table (length rounds)) texts

-- ---- the fields of packets

-- the fields of a batch's packet: its number, its block's id, and its pages, those that aren't
-- zeros with their contents
abbrev pub batch_fields : Image → BatchOfPages → ℕ → Fields
batch_fields image batch number = record {
  number = number;
  sync = false;
  id = (block image.table.blocks batch.block).id;
  normal = map (λ page. record { offset = page.place.page * image.table.page_size; content = page.content }) (normals_of (round_of image (batch_places batch)));
  zero = offsets_of image.table.page_size (zeros_of (round_of image (batch_places batch)));
}

-- The packet of a batch has the batch's pages, and a SYNC packet has only its number.
pub record SayTheirPages : Type 0 where
  pub batch_says : (image : Image) (batch : BatchOfPages) (number : ℕ) → IsTable image.table → IsImage image → IsBatch image.table batch → number < 2 ^ 64
      → fields_of image.table.page_size (packed_of image batch number).bytes ≡ batch_fields image batch number
  pub sync_says : (table : RamTable) (number : ℕ) → IsTable table → number < 2 ^ 64
      → fields_of table.page_size (sync_packet table.page_size number) ≡ record { number = number; sync = true; id = []; normal = []; zero = [] }
