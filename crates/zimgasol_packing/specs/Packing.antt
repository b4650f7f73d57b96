-- A main stream and channels that are being written, and what they have.
use Rattle.std.specs.Prelude.{ℕ, ◌≡◌, ◌+◌, ◌<◌, ◌≤◌, ◌^◌, ◌==◌, nat_lt, if◌then◌else◌, List, [], ◌∷◌, ◌++◌, length, map, flat_map, get_or, Option, Some, None, All}
use Rattle.std.specs.List.{range_with_len}
use Rattle.std.specs.Io.KnownBytes.{Appends}
use Rattle.mig_mem.specs.Image.{Page}
use Rattle.mig_mem.specs.RamTable.{RamTable}
use Rattle.mig_stream.specs.Text.{file_header, configuration}
use Rattle.mig_stream.specs.Written.{FlushPart}
use Rattle.mig_stream.specs.MachineWritten.{machine_closed}
use Rattle.mig_stream.specs.Writer.{HasDrained}
use Rattle.mig_packet.specs.Hello.{written_hello}
use Rattle.mig_packet.specs.PageSize.{page_limit}
use Rattle.mig_send.specs.Dealing.{sync_packet}
use Rattle.mig_send.specs.Packing.{normals_of, zeros_of, offsets_of, contents_of}
use Rattle.zimgasol_files.specs.declared.target.Outlet.{Outlet}
use Rattle.zimgasol_files.specs.Differing.{Piece, AreSent}
use Rattle.zimgasol_packing.specs.Packets.{Packet, IsPacket, AreOfBlock, AreFull, ArePackets, begun_text, ended_text}
use Rattle.zimgasol_packing.specs.declared.batch.Batch.{Batch}
use Rattle.zimgasol_packing.specs.declared.packing.Packing.{Packing}

-- ---- channels

-- the bytes in a channel's file, if they are known
abbrev pub bytes_in : {F : Type 0} → (F → Option (List ℕ)) → List (Outlet F) → ℕ → Option (List ℕ)
bytes_in contents channels channel = get_or (map (λ outlet. contents outlet.file) channels) channel None

-- each channel's file has these bytes
abbrev pub HaveTexts : {F : Type 0} → (F → Option (List ℕ)) → List (Outlet F) → (ℕ → List ℕ) → Type 0
HaveTexts contents channels texts = (channel : ℕ) → channel < length channels → bytes_in contents channels channel ≡ Some (texts channel)

-- these texts, and bytes after that of one channel
abbrev pub with_bytes : (ℕ → List ℕ) → ℕ → List ℕ → ℕ → List ℕ
with_bytes texts channel bytes other = if other == channel then texts other ++ bytes else texts other

-- the hellos of the first channels
abbrev pub hellos_to : List ℕ → ℕ → ℕ → List ℕ
hellos_to uuid n channel = if nat_lt channel n then written_hello uuid channel else []

-- these texts, and SYNC packets on the first channels
abbrev pub syncs_to : (ℕ → List ℕ) → ℕ → ℕ → ℕ → ℕ → List ℕ
syncs_to texts page_size number n channel = if nat_lt channel n then texts channel ++ sync_packet page_size (number + channel) else texts channel

-- ---- a batch

-- The batch has these pages: the offsets of those that aren't zeros, their contents, and the
-- offsets of the others.
pub record HasPages (size : ℕ) (batch : Batch) (pages : List Page) : Type 0 where
  pub normals : batch.normal.items ≡ offsets_of size (normals_of pages)
  pub contents : batch.contents.items ≡ contents_of (normals_of pages)
  pub zeros : batch.zeros.items ≡ offsets_of size (zeros_of pages)

-- ---- the main stream

-- the bytes that were written before those of the writer, and what they stand for: with a name a
-- configuration follows the file header
abbrev pub front_of : Option (List ℕ) → List ℕ
front_of None = []
front_of (Some name) = file_header ++ configuration (Some name)

abbrev pub drained_of : Option (List ℕ) → List ℕ
drained_of None = []
drained_of (Some name) = file_header

-- ---- the sending

-- what a sending was begun with
pub record Begun : Type 0 where
  pub name : Option (List ℕ)
  pub uuid : List ℕ
  pub table : RamTable

-- the packet that the pages of the batch will be
abbrev pub next_packet : {F : Type 0} → Packing F → List Page → Packet
next_packet s pages = record { number = s.number; channel = s.turn; block = s.batch.block; pages = pages }

-- The channels carry these packets: each has as many as its turns, and the main stream has the
-- FLUSH of the round before.
pub record HasSent {F : Type 0} (contents : F → Option (List ℕ)) (begun : Begun) (packets : List Packet) (s : Packing F) : Type 0 where
  pub has_table : s.main.table ≡ begun.table
  pub has_main : HasDrained (drained_of begun.name) s.main (FlushPart ∷ [])
  pub are_packets : All (IsPacket begun.table (length s.channels.items)) packets
  pub are_numbered : map (λ (packet : Packet). packet.number) packets ≡ range_with_len (length s.channels.items) (length packets)
  pub has_number : s.number ≡ length s.channels.items + length packets
  pub has_turn : s.turn < length s.channels.items
  pub have_texts : HaveTexts contents s.channels.items (begun_text begun.table begun.uuid packets)

-- They carry these packets, and these pages are in the batch.
pub record HasPacked {F : Type 0} (contents : F → Option (List ℕ)) (begun : Begun) (packets : List Packet) (pages : List Page) (s : Packing F) : Type 0 where
  pub has_sent : HasSent contents begun packets s
  pub are_full : AreFull (page_limit begun.table.page_size) (packets ++ next_packet s pages ∷ [])
  pub has_pages : HasPages begun.table.page_size s.batch pages
  pub are_of_block : AreOfBlock s.batch.block pages
  pub are_few : length pages ≤ page_limit begun.table.page_size

-- the pages of packets
abbrev pub all_of : List Packet → List Page
all_of packets = flat_map (λ (packet : Packet). packet.pages) packets

-- THESE PAGES WERE SENT so far, those in the batch last. Only before the first one no page is in
-- the batch.
pub record IsPacking {F : Type 0} (contents : F → Option (List ℕ)) (begun : Begun) (pages : List Page) (s : Packing F) : Type 0 where
  pub packets : List Packet
  pub waiting : List Page
  pub has_packed : HasPacked contents begun packets waiting s
  pub none_before : waiting ≡ [] → packets ≡ []
  pub have_pages : all_of packets ++ waiting ≡ pages

-- The batch was sent as a packet, if it had pages. The next packet may follow it, if it is of
-- another block or this one was full.
pub record HasSentBatch {F : Type 0} (contents : F → Option (List ℕ)) (begun : Begun) (old new : Packing F) (packets : List Packet) (pages : List Page) : Type 0 where
  pub more : List Packet
  pub has_sent : HasSent contents begun more new
  pub has_none : HasPages begun.table.page_size new.batch []
  pub have_pages : all_of more ≡ all_of packets ++ pages
  pub are_full : AreFull (page_limit begun.table.page_size) more
  pub goes_on : (next : Packet) → (old.batch.block ≡ next.block → length pages ≡ page_limit begun.table.page_size)
      → AreFull (page_limit begun.table.page_size) (more ++ next ∷ [])

abbrev pub SendsBatch : {F : Type 0} → (F → Option (List ℕ)) → Packing F → Packing F → Type 0
SendsBatch contents old new = (begun : Begun) (packets : List Packet) (pages : List Page) → HasPacked contents begun packets pages old
    → (pages ≡ [] → packets ≡ []) → HasSentBatch contents begun old new packets pages

-- There is room for a page of a block in the batch.
pub record HasRoom {F : Type 0} (contents : F → Option (List ℕ)) (begun : Begun) (pages : List Page) (b : ℕ) (s : Packing F) : Type 0 where
  pub packets : List Packet
  pub waiting : List Page
  pub has_packed : HasPacked contents begun packets waiting s
  pub have_pages : all_of packets ++ waiting ≡ pages
  pub has_block : s.batch.block ≡ b
  pub has_room : length waiting < page_limit begun.table.page_size

-- One page more was sent.
abbrev pub SendsPage : {F : Type 0} → (F → Option (List ℕ)) → Page → Packing F → Packing F → Type 0
SendsPage contents page old new = (begun : Begun) (pages : List Page) → IsPacking contents begun pages old → IsPacking contents begun (pages ++ page ∷ []) new

-- Of a piece of a block the pages that differ were sent.
abbrev pub SendsPages : {F : Type 0} → (F → Option (List ℕ)) → ℕ → ℕ → Piece → Packing F → Packing F → Type 0
SendsPages contents block first piece old new = (begun : Begun) (pages : List Page) → IsPacking contents begun pages old
    → (sent : List Page) × AreSent block first piece 256 sent × IsPacking contents begun (pages ++ sent) new

-- ---- its end

-- THE MAIN STREAM AND THE CHANNELS ARE COMPLETE, of a round without pages and one with these: the
-- channels have its packets, and the main stream has grown by its last bytes.
pub record IsPackedAll {F : Type 0} (contents : F → Option (List ℕ)) (begun : Begun) (pages : List Page) (channels : List (Outlet F)) (old new : Option (List ℕ)) : Type 0 where
  pub packets : List Packet
  pub are_packets : ArePackets begun.table (length channels) pages packets
  pub numbers_fit : length channels + length packets + length channels < 2 ^ 64
  pub have_texts : HaveTexts contents channels (ended_text begun.table begun.uuid (length channels) packets)
  pub last : List ℕ
  pub has_last : Appends old new last
  pub is_main : front_of begun.name ++ last ≡ machine_closed begun.name begun.table (FlushPart ∷ FlushPart ∷ [])
