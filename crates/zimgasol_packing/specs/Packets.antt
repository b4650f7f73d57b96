-- The packets of some pages, each on a channel.
use Rattle.std.specs.Prelude.{ℕ, ◌≡◌, ◌+◌, ◌<◌, ◌≤◌, ◌==◌, List, [], ◌∷◌, ◌++◌, length, map, flat_map, All, ⊤}
use Rattle.std.specs.List.{filter, range_with_len}
use Rattle.mig_mem.specs.Image.{Page}
use Rattle.mig_mem.specs.RamTable.{RamTable, block}
use Rattle.mig_packet.specs.Hello.{written_hello}
use Rattle.mig_packet.specs.PageSize.{page_limit}
use Rattle.mig_send.specs.Packing.{packet_of}
use Rattle.mig_send.specs.Dealing.{sync_packet}

-- a packet with pages: its number, the channel that carries it, and its pages, of one block
pub record Packet : Type 0 where
  pub number : ℕ
  pub channel : ℕ
  pub block : ℕ
  pub pages : List Page

-- its bytes
abbrev pub packet_bytes : RamTable → Packet → List ℕ
packet_bytes table packet = packet_of table.page_size packet.number (block table.blocks packet.block).id packet.pages

-- its pages are of its block
abbrev pub AreOfBlock : ℕ → List Page → Type 0
AreOfBlock b pages = All (λ page. page.place.block ≡ b) pages

-- A packet that one of some channels carries: at least one page, all of its block, and no more than
-- a packet may have.
pub record IsPacket (table : RamTable) (channels : ℕ) (packet : Packet) : Type 0 where
  pub has_channel : packet.channel < channels
  pub has_some : 0 < length packet.pages
  pub has_few : length packet.pages ≤ page_limit table.page_size
  pub are_of_block : AreOfBlock packet.block packet.pages

-- a packet that the next one follows has as many pages as a packet may have, or the next one is of
-- another block
abbrev pub AreFull : ℕ → List Packet → Type 0
AreFull limit [] = ⊤
AreFull limit (one ∷ []) = ⊤
AreFull limit (one ∷ next ∷ rest) = (one.block ≡ next.block → length one.pages ≡ limit) × AreFull limit (next ∷ rest)

-- PACKETS of some pages on some channels: all of the pages, in their order, and numbers that count
-- on from the number of channels.
pub record ArePackets (table : RamTable) (channels : ℕ) (pages : List Page) (packets : List Packet) : Type 0 where
  pub have_pages : flat_map (λ (packet : Packet). packet.pages) packets ≡ pages
  pub are_numbered : map (λ (packet : Packet). packet.number) packets ≡ range_with_len channels (length packets)
  pub are_packets : All (IsPacket table channels) packets
  pub are_full : AreFull (page_limit table.page_size) packets

-- those that a channel carries
abbrev pub carried : ℕ → List Packet → List Packet
carried channel packets = filter (λ (packet : Packet). packet.channel == channel) packets

-- ---- the bytes of a channel

-- its hello, the SYNC packet of a round without pages, whose packets have the first numbers, and
-- the packets that it carries
abbrev pub begun_text : RamTable → List ℕ → List Packet → ℕ → List ℕ
begun_text table uuid packets channel =
    written_hello uuid channel ++ sync_packet table.page_size channel ++ flat_map (packet_bytes table) (carried channel packets)

-- with the SYNC packet that ends their round: the channels' last numbers follow those of the
-- packets
abbrev pub ended_text : RamTable → List ℕ → ℕ → List Packet → ℕ → List ℕ
ended_text table uuid channels packets channel =
    begun_text table uuid packets channel ++ sync_packet table.page_size (channels + length packets + channel)
