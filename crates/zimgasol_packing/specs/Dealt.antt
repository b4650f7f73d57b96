-- The sending that packets are: a round without pages, and one with the pages of a memory.
use Rattle.std.specs.Prelude.{ℕ, ◌≡◌, ◌+◌, ◌<◌, ◌≤◌, ◌^◌, List, [], ◌∷◌, length, map, replicate, Option}
use Rattle.std.specs.List.{range_with_len}
use Rattle.mig_mem.specs.Image.{Page, Image, IsImage}
use Rattle.mig_mem.specs.PlaceSet.{IsPlaceSet}
use Rattle.mig_mem.specs.Round.{round_of}
use Rattle.mig_mem.specs.RamTable.{IsTable}
use Rattle.mig_mem.specs.declared.place.Place.{Place}
use Rattle.mig_packet.specs.PageSize.{page_limit}
use Rattle.mig_stream.specs.Written.{FlushPart}
use Rattle.mig_stream.specs.MachineWritten.{machine_written}
use Rattle.mig_send.specs.Batches.{BatchOfPages}
use Rattle.mig_send.specs.Work.{Share}
use Rattle.mig_send.specs.DealtRounds.{DealtRound, IsMachineSending}
use Rattle.zimgasol_packing.specs.Packets.{Packet, ArePackets, carried, ended_text}

-- the batch of a packet's pages
abbrev pub batch_of : Packet → BatchOfPages
batch_of packet = record { block = packet.block; pages = map (λ (page : Page). page.place.page) packet.pages }

-- a channel's share of the round without pages, and of that with these packets
abbrev pub first_share : ℕ → Share
first_share channel = record { numbers = []; last = channel }

abbrev pub share_of : ℕ → List Packet → ℕ → Share
share_of channels packets channel = record {
  numbers = map (λ (packet : Packet). packet.number) (carried channel packets);
  last = channels + length packets + channel;
}

-- the two rounds, of the same image
abbrev pub first_round : Image → ℕ → DealtRound
first_round image channels = record {
  snapshot = record { image = image; dirty = [] };
  batches = [];
  base = 0;
  shares = map first_share (range_with_len 0 channels);
}

abbrev pub second_round : Image → List Place → ℕ → List Packet → DealtRound
second_round image dirty channels packets = record {
  snapshot = record { image = image; dirty = dirty };
  batches = map batch_of packets;
  base = channels;
  shares = map (share_of channels packets) (range_with_len 0 channels);
}

abbrev pub both_rounds : Image → List Place → ℕ → List Packet → List DealtRound
both_rounds image dirty channels packets = first_round image channels ∷ second_round image dirty channels packets ∷ []

-- Packets of a memory's pages at some places, on 1 to 255 channels, are a sending of these rounds.
abbrev pub PacketsAreASending : Type 0
PacketsAreASending = (name : Option (List ℕ)) (image : Image) (dirty : List Place) (uuid : List ℕ) (channels : ℕ) (packets : List Packet)
    → IsTable image.table → IsImage image → IsPlaceSet (record { table = image.table; marked = dirty }) → length uuid ≡ 16
    → 0 < channels → channels ≤ 255 → ArePackets image.table channels (round_of image dirty) packets → channels + length packets + channels < 2 ^ 64
    → IsMachineSending name image.table uuid (page_limit image.table.page_size) channels (both_rounds image dirty channels packets)
    (machine_written name image.table (replicate 2 FlushPart)) (map (ended_text image.table uuid channels packets) (range_with_len 0 channels))
