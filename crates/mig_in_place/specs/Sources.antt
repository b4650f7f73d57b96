-- The state of a load in place on its sources, and the arrivals of the current round. All of it is
-- private, except for the counts.
use Rattle.std.specs.Prelude.{ℕ, ◌≡◌, ◌≢◌, ◌⊎◌, ◌+◌, ◌<◌, ◌≤◌, ◌++◌, ◌∷◌, [], Bool, true, false, List, length, map, All, IsTrue, take, ◌↔◌, IsFalse, IfSome, Option, Some, None, IsPermutation}
use Rattle.std.specs.List.{flat_map}
use Rattle.std.specs.Option.{IsSomeAnd, unwrap_or}
use Rattle.mig_mem.specs.PageSize.{IsPageSize}
use Rattle.mig_mem.specs.RamTable.{RamTable, block_of}
use Rattle.mig_mem.specs.declared.place.Place.{Place}
use Rattle.mig_mem.specs.Place.{has_place}
use Rattle.mig_mem.specs.Image.{Page, Image}
use Rattle.mig_mem.specs.Round.{with_round}
use Rattle.mig_stream.specs.PageRecord.{PageRecord, page_of}
use Rattle.mig_stream.specs.Reading as stream
use Rattle.mig_stream.specs.Reader as stream_reader
use Rattle.mig_packet.specs.Packet.{fields_of, id_in, normal_count, offset_at}
use Rattle.mig_packet.specs.Reading as channel
use Rattle.mig_packet.specs.Paging.{OpenPacket, GivenSoFar, PageHolder, Gives, is_complete, with_page}
use Rattle.mig_assemble.specs.Judging.{page_in, packet_pages, places_of}
use Rattle.mig_assemble.specs.PacketPages.{zero_pages}
use Rattle.mig_assemble.specs.Arrivals.{Arrival, Records, OnePacket, records_in, packets_in, arrival_pages}
use Rattle.mig_load_types.specs.Settings.{main_of}
use Rattle.mig_load_types.specs.declared.settings.LoadSettings.{LoadSettings}
use Rattle.mig_answer.specs.declared.status.Status.{Status}
use Rattle.mig_answer.specs.declared.status.Status.TheVariants.{Pending}
use Rattle.mig_load_types.specs.declared.fault.Fault.{Fault}
use Rattle.mig_answer.specs.Status.{main_status, channel_status, stream_end, channel_end, fault_of}
use Rattle.mig_answer.specs.Texts.{Text, IsMainReading, with_piece}
use Rattle.mig_sources.specs.Sources.{Counts}
use Rattle.mig_sources.specs.declared.counts.Count.{Count}
use Rattle.mig_stream.specs.declared.item.StreamState.TheVariants as stream_state
use Rattle.mig_in_place.specs.declared.main_stream.SizeList.{SizeList}
use Rattle.mig_in_place.specs.declared.main_stream.SizeList.TheVariants as list
use Rattle.mig_in_place.specs.Named.{round_so_far}
use Rattle.mig_packet.specs.PacketHead.{offsets_in, as_zeros}
use Rattle.mig_assemble.specs.HeadPlaces.{LieIn}
use Rattle.mig_in_place.specs.Round.{KeptRound, Keeps, AlsoKeeps}

-- ---- the state

pub record KeptMain : Type 0 where
  pub reader : stream_reader.Reader
  -- whether the current round is complete, and was taken from the reader
  pub is_whole : Bool

pub record KeptChannel : Type 0 where
  pub reader : PageHolder
  -- the block of the packet that was begun, if its pages are to be written
  pub block : Option ℕ
  pub is_whole : Bool

pub record KeptSources : Type 0 where
  pub main : KeptMain
  pub channels : List KeptChannel

abbrev pub main_count : KeptMain → Count
main_count m = record { fed = m.reader.fed; ended = m.reader.ended }

abbrev pub channel_count : KeptChannel → Count
channel_count c = record { fed = c.reader.fed; ended = c.reader.ended }

-- how many bytes of each source were taken, and whether it was ended
abbrev pub counts_of : KeptSources → Counts
counts_of s = record { main = main_count s.main; channels = map channel_count s.channels }

-- the channel at the next round
abbrev pub at_next_round : KeptChannel → KeptChannel
at_next_round c = record c { is_whole = false }

-- ---- the state of one source, whose first k rounds were judged

-- the rounds judged, and the current one if it is complete
abbrev pub rounds_come : ℕ → Bool → ℕ
rounds_come k false = k
rounds_come k true = k + 1

-- a main stream up to here, some of whose rounds were taken from the reader
abbrev pub so_far_of : Text → ℕ → stream_reader.SoFar
so_far_of text taken = record { text = text.bytes; ended = text.ended; taken = taken }

-- This much of the main stream was taken. Of its rounds the first k, and the next one if it is
-- complete, were taken from the reader.
abbrev pub StandsAt : stream.Settings → ℕ → Text → KeptMain → Type 0
StandsAt given k text m = stream_reader.Stands given (so_far_of text (rounds_come k m.is_whole)) m.reader

-- round k isn't complete
abbrev pub HasNoRound : stream.Settings → ℕ → Text → Type 0
HasNoRound given k text = (i : ℕ) (records : List PageRecord) → stream_reader.HasRound given text.bytes i records → i < k

-- The next round is complete and here, or it isn't complete.
pub record HoldsMain (given : stream.Settings) (k : ℕ) (text : Text) (m : KeptMain) : Type 0 where
  pub stands : StandsAt given k text m
  pub has_none : IsFalse m.is_whole → HasNoRound given k text

-- the records of round k, which are of pages of the table
pub record IsRoundOf (given : stream.Settings) (k : ℕ) (text : Text) (page_size : ℕ) (records : List PageRecord) : Type 0 where
  pub has_page_size : page_size ≡ given.page_size
  pub has_records : stream_reader.HasRound given text.bytes k records

-- This much of a channel was taken and given. A packet that was begun lacks pages.
pub record HoldsChannel (given : channel.Settings) (table : RamTable) (k : ℕ) (text : Text) (so_far : GivenSoFar) (c : KeptChannel) : Type 0 where
  pub gives : Gives given text.bytes so_far c.reader
  pub has_ended : c.reader.ended ≡ text.ended
  pub has_rounds : length so_far.read.rounds ≡ rounds_come k c.is_whole
  pub is_between : IsTrue c.is_whole → (so_far.read.packets ≡ []) × (so_far.packet ≡ None)
  pub has_hello : IfSome so_far.packet (λ packet. so_far.read.hello ≢ None)
  pub has_missing : IfSome so_far.packet (λ packet. IsFalse (is_complete packet))
  pub has_block : IfSome c.block (λ b. IsSomeAnd so_far.packet (λ packet. LieIn table b packet.head))

-- a channel's reader took its bytes, gave something of them, and was ended if the channel was
abbrev pub HasGiven : channel.Settings → Text → KeptChannel → Type 0
HasGiven given text c = (so_far : GivenSoFar) × Gives given text.bytes so_far c.reader × (c.reader.ended ≡ text.ended)

-- nothing of a channel was given but its hello
pub record HasHelloAlone (so_far : GivenSoFar) : Type 0 where
  pub no_rounds : so_far.read.rounds ≡ []
  pub no_packets : so_far.read.packets ≡ []
  pub none_begun : so_far.packet ≡ None

-- the pages of the packet that was begun are written, if it has some
abbrev pub WritesPages : GivenSoFar → KeptChannel → Type 0
WritesPages so_far c = IfSome so_far.packet (λ packet. length (offsets_in packet.head) ≢ 0 → c.block ≢ None)

-- The invariant of a channel of a load into memory of this table, whatever the memory holds: its
-- reader gave something, and the pages of a packet that was begun are written into its block.
pub record IsChannelOf (table : RamTable) (c : KeptChannel) : Type 0 where
  pub given : channel.Settings
  pub text : List ℕ
  pub so_far : GivenSoFar
  pub has_page_size : given.page_size ≡ table.page_size
  pub gives : Gives given text so_far c.reader
  pub has_block : IfSome c.block (λ b. IsSomeAnd so_far.packet (λ packet. LieIn table b packet.head))

-- ---- the status of a source

-- this is its status at the current round
abbrev pub TellsMainStatus : KeptMain → Status → Type 0
TellsMainStatus m status = (given : LoadSettings) (k : ℕ) (text : Text) (reading : stream.StreamReading) → IsPageSize given.page_size
    → HoldsMain (main_of given) k text m → IsMainReading given text reading → status ≡ main_status k reading

abbrev pub TellsChannelStatus : KeptChannel → Status → Type 0
TellsChannelStatus c status = (given : channel.Settings) (table : RamTable) (k : ℕ) (text : Text) (so_far : GivenSoFar) (reading : channel.ChannelReading) → IsPageSize given.page_size
    → HoldsChannel given table k text so_far c → channel.IsReading given text.bytes text.ended reading → status ≡ channel_status k reading

-- this is the fault of the bytes taken
abbrev pub TellsMainFault : KeptMain → Option Fault → Type 0
TellsMainFault m found = (given : LoadSettings) (k : ℕ) (text : Text) (reading : stream.StreamReading) → IsPageSize given.page_size
    → StandsAt (main_of given) k text m → IsMainReading given text reading → found ≡ fault_of (stream_end reading.state)

abbrev pub TellsChannelFault : KeptChannel → Option Fault → Type 0
TellsChannelFault c found = (given : channel.Settings) (text : Text) (reading : channel.ChannelReading) → IsPageSize given.page_size
    → HasGiven given text c → channel.IsReading given text.bytes text.ended reading → found ≡ fault_of (channel_end reading.state)

-- this is the id in its hello
abbrev pub TellsHello : KeptChannel → Option ℕ → Type 0
TellsHello c hello = (given : channel.Settings) (table : RamTable) (k : ℕ) (text : Text) (so_far : GivenSoFar) (reading : channel.ChannelReading) → IsPageSize given.page_size
    → HoldsChannel given table k text so_far c → channel.IsReading given text.bytes text.ended reading → hello ≡ reading.hello

-- ---- the arrivals of round k

-- the pages that each channel gave, and the pages of the main stream's records, which arrive
-- together
pub record CameSoFar : Type 0 where
  pub records : List Page
  pub channels : List GivenSoFar

-- a channel's complete packets of round k
abbrev pub packets_given : ℕ → GivenSoFar → List (List ℕ)
packets_given k so_far = round_so_far k so_far.read.rounds so_far.read.packets

abbrev pub heads_begun : Option OpenPacket → List (List ℕ)
heads_begun None = []
heads_begun (Some packet) = packet.head ∷ []

-- the heads of the complete packets, and that of the packet that was begun
abbrev pub heads_given : ℕ → GivenSoFar → List (List ℕ)
heads_given k so_far = packets_given k so_far ++ heads_begun so_far.packet

-- the block that a head names
abbrev pub block_in : RamTable → List ℕ → ℕ
block_in table head = unwrap_or (block_of table.blocks (id_in head)) 0

-- the pages of zeros of a packet, and those of its normal pages that were given
abbrev pub zeros_begun : RamTable → List ℕ → List Page
zeros_begun table head = zero_pages table (block_in table head) (fields_of table.page_size head)

abbrev pub normal_begun : RamTable → OpenPacket → List Page
normal_begun table packet = map (λ page. page_in table (block_in table packet.head) page.offset page.content) packet.pages

-- the pages that were given of a packet that was begun
abbrev pub pages_begun : RamTable → Option OpenPacket → List Page
pages_begun table None = []
pages_begun table (Some packet) = zeros_begun table packet.head ++ normal_begun table packet

abbrev pub pages_given : RamTable → ℕ → GivenSoFar → List Page
pages_given table k so_far =
    flat_map (λ packet. packet_pages table (fields_of table.page_size packet)) (packets_given k so_far) ++ pages_begun table so_far.packet

-- the places that a packet's head names; none if a page is misplaced
abbrev pub head_places : RamTable → List ℕ → List Place
head_places table head = places_of (arrival_pages table (OnePacket (as_zeros head)))

-- the places that the round names so far
abbrev pub named_places : RamTable → ℕ → CameSoFar → List Place
named_places table k came = places_of came.records ++ flat_map (head_places table) (flat_map (heads_given k) came.channels)

-- The state of round k, and the memory, which held `kept` before it. Each page that was written has
-- a place that the round names. If no page is misplaced all pages that arrived were written.
pub record HoldsRound (table : RamTable) (kept : Image) (k : ℕ) (came : CameSoFar) (r : KeptRound) (memory : Image) : Type 0 where
  pub arrivals : List Arrival
  pub keeps : Keeps table arrivals r
  pub has_records : records_in arrivals ≡ came.records
  pub has_packets : IsPermutation (packets_in arrivals) (map as_zeros (flat_map (heads_given k) came.channels))
  pub written : List Page
  pub has_memory : memory ≡ with_round kept written
  pub are_named : All (λ page. IsTrue (has_place (named_places table k came) page.place)) written
  pub are_all : IsFalse r.has_misplaced → IsPermutation written (came.records ++ flat_map (pages_given table k) came.channels)

-- The records of round k of a main stream were taken: the round has them, and so has the memory,
-- unless pages are known to be misplaced. Or there was none to take.
pub record TakesRecords (given : stream.Settings) (k : ℕ) (text : Text) (old : KeptMain) (r : KeptRound) (memory : Image) (new : KeptMain) (after : KeptRound) (then : Image) : Type 0 where
  pub records : List PageRecord
  pub has_records : stream_reader.HasRound given text.bytes k records
  pub was_open : IsFalse old.is_whole
  pub is_whole : IsTrue new.is_whole
  pub stands : StandsAt given k text new
  pub also : AlsoKeeps (Records (map (page_of given.page_size) records)) r after
  pub same_misplaced : after.has_misplaced ≡ r.has_misplaced
  pub right : IsFalse r.has_misplaced → then ≡ with_round memory (map (page_of given.page_size) records)
  pub wrong : IsTrue r.has_misplaced → then ≡ memory

abbrev pub HasTakenRecords : stream.Settings → ℕ → Text → KeptMain → KeptRound → Image → KeptMain → KeptRound → Image → Type 0
HasTakenRecords given k text old r memory new after then =
    ((new ≡ old) × (after ≡ r) × (then ≡ memory) × (IsFalse old.is_whole → HasNoRound given k text)) ⊎ TakesRecords given k text old r memory new after then

-- ---- the size list

-- the state of the size list of a main stream
abbrev pub IsListAt : SizeList → stream.StreamReading → Type 0
IsListAt list.Complete reading = reading.table ≢ None
IsListAt list.Awaited reading = (reading.table ≡ None) × (reading.state ≡ stream_state.Reading)
IsListAt list.Lost reading = (reading.table ≡ None) × (reading.state ≢ stream_state.Reading)

abbrev pub TellsList : KeptMain → SizeList → Type 0
TellsList m l = (given : LoadSettings) (k : ℕ) (text : Text) (reading : stream.StreamReading) → IsPageSize given.page_size
    → StandsAt (main_of given) k text m → IsMainReading given text reading → IsListAt l reading

-- ---- during a call

-- one channel of a load, during the current round
pub record AtChannel : Type 0 where
  pub given : channel.Settings
  -- the memory before round k
  pub kept : Image
  pub k : ℕ
  -- the arrivals of the other sources: the main stream's pages, and those of the channels before
  -- and after this one
  pub records : List Page
  pub before : List GivenSoFar
  pub after : List GivenSoFar

abbrev pub came_with : AtChannel → GivenSoFar → CameSoFar
came_with f so_far = record { records = f.records; channels = f.before ++ so_far ∷ f.after }

-- This much of the channel was taken and given, and is in the round, and in the memory if the table
-- is known.
pub record HoldsAt (f : AtChannel) (l : SizeList) (text : Text) (so_far : GivenSoFar) (c : KeptChannel) (r : KeptRound) (memory : Image) : Type 0 where
  pub is_page_size : IsPageSize f.given.page_size
  pub has_page_size : f.given.page_size ≡ memory.table.page_size
  pub same_table : r.arrivals.seen.table ≡ memory.table
  pub holds : HoldsChannel f.given memory.table f.k text so_far c
  pub round : l ≡ list.Complete → HoldsRound memory.table f.kept f.k (came_with f so_far) r memory
  -- before the size list only the hello is read
  pub is_alone : l ≡ list.Awaited → HasHelloAlone so_far
  -- no page is written while the table isn't known
  pub is_unwritten : l ≢ list.Complete → c.block ≡ None
  -- the pages of the packet that was begun are written, unless a page is known to be misplaced
  pub writes : l ≡ list.Complete → IsFalse r.has_misplaced → WritesPages so_far c

-- A head is added: the round and the memory have what they had, and its packet with its zeros.
abbrev pub AddsHead : List ℕ → KeptRound → Image → KeptRound → Image → Type 0
AddsHead head r memory after then = (f : AtChannel) (so_far : GivenSoFar) → so_far.packet ≡ None → HoldsRound memory.table f.kept f.k (came_with f so_far) r memory
    → HoldsRound memory.table f.kept f.k (came_with f (record so_far { packet = Some (record { head = head; pages = [] }) })) after then

-- where the pages of the packet of a head are written from then on
pub record WritesInto (table : RamTable) (head : List ℕ) (r : KeptRound) (block : Option ℕ) : Type 0 where
  pub lies : IfSome block (λ b. LieIn table b head)
  pub writes : IsFalse r.has_misplaced → length (offsets_in head) ≢ 0 → block ≢ None

-- The next page of a packet that was begun is added.
abbrev pub AddsPage : ℕ → List ℕ → Option ℕ → KeptRound → Image → Image → Type 0
AddsPage offset content block r memory then = (f : AtChannel) (so_far : GivenSoFar) (packet : OpenPacket) → so_far.packet ≡ Some packet
    → length packet.pages < normal_count packet.head → offset ≡ offset_at packet.head (length packet.pages) → length content ≡ memory.table.page_size
    → WritesInto memory.table packet.head r block → HoldsRound memory.table f.kept f.k (came_with f so_far) r memory
    → HoldsRound memory.table f.kept f.k (came_with f (record so_far { packet = with_page offset content so_far.packet })) r then

-- a channel is held back, by the id of its hello if that has arrived
abbrev pub holds_back : SizeList → Option ℕ → Bool
holds_back list.Awaited (Some id) = true
holds_back list.Awaited None = false
holds_back list.Complete hello = false
holds_back list.Lost hello = false

-- bytes of the channel are taken
abbrev pub TellsTakes : SizeList → KeptChannel → Bool → Type 0
TellsTakes l c takes = (given : channel.Settings) (table : RamTable) (k : ℕ) (text : Text) (so_far : GivenSoFar) (reading : channel.ChannelReading) → IsPageSize given.page_size
    → HoldsChannel given table k text so_far c → channel.IsReading given text.bytes text.ended reading
    → (IsTrue takes ↔ ((channel_status k reading ≡ Pending) × (l ≡ list.Awaited → reading.hello ≡ None)))

-- The state after reading a piece, `taken` bytes of which were taken.
abbrev pub HasRead : SizeList → List ℕ → ℕ → KeptChannel → KeptRound → Image → KeptChannel → KeptRound → Image → Type 0
HasRead l piece n c r memory new after then = (f : AtChannel) (text : Text) (so_far : GivenSoFar) → HoldsAt f l text so_far c r memory
    → (gave : GivenSoFar) × HoldsAt f l (with_piece (take n piece) text) gave new after then

-- What it leaves where an allocation was refused, of which so many bytes were taken: all that was
-- written is of the bytes that came before the head whose packet couldn't be added.
abbrev pub HasReadSome : SizeList → List ℕ → ℕ → KeptChannel → KeptRound → Image → KeptRound → Image → Type 0
HasReadSome l piece taken c r memory after then = (f : AtChannel) (text : Text) (so_far : GivenSoFar) → HoldsAt f l text so_far c r memory
    → (n : ℕ) × (some : KeptChannel) × (gave : GivenSoFar) × (n ≤ taken) × HoldsAt f l (with_piece (take n piece) text) gave some after then
