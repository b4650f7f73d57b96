-- A reader of a channel that gives each page once its bytes have arrived, before its packet and its
-- round are complete; and what it represents.
use Rattle.std.specs.Prelude.{◌≡◌, ◌≢◌, ℕ, ◌+◌, ◌-◌, ◌*◌, ◌<◌, ◌≤◌, Bool, true, false, ◌==◌, if◌then◌else◌, List, [], ◌∷◌, ◌++◌}
use Rattle.std.specs.Prelude.{length, map, Option, Some, None, IfSome, IsTrue, IsFalse, ⊤, ◌⊎◌}
use Rattle.std.specs.List.{All, flat_map, range_with_len}
use Rattle.std.specs.Option.{IsSomeAnd}
use Rattle.mig_packet.specs.declared.state.ChannelState.{ChannelState}
use Rattle.mig_packet.specs.declared.state.ChannelState.TheVariants.{Reading}
use Rattle.mig_packet.specs.declared.page_reader.ChannelEvent.{ChannelEvent}
use Rattle.mig_packet.specs.declared.page_reader.ChannelEvent.TheVariants as event
use Rattle.mig_packet.specs.declared.page_reader.PageContent.{PageContent}
use Rattle.mig_packet.specs.declared.page_reader.PageContent.TheVariants as content
use Rattle.mig_packet.specs.PageSize.{IsPageSize, head_len}
use Rattle.mig_packet.specs.Packet.{NormalPage, Fields, IsPacket, normal_count, offset_at}
use Rattle.mig_packet.specs.PacketHead.{IsPacketHead}
use Rattle.mig_packet.specs.Waiting.{room_after}
use Rattle.mig_packet.specs.Progress.{ChannelProgress, start, judged_len, after_packet}
use Rattle.mig_packet.specs.Reading.{Reads, Settings, ChannelReading, IsReading}

-- ---- the results given

-- the packet that was begun: its head, and its normal pages that were given
pub record OpenPacket : Type 0 where
  pub head : List ℕ
  pub pages : List NormalPage

-- The head is complete and without a fault, and the pages are the first of the packet.
pub record IsOpenPacket (page_size : ℕ) (packet : OpenPacket) : Type 0 where
  pub is_head : IsPacketHead page_size packet.head
  pub has_few : length packet.pages ≤ normal_count packet.head
  pub has_offsets : map (λ page. page.offset) packet.pages ≡ map (offset_at packet.head) (range_with_len 0 (length packet.pages))
  pub are_whole : All (λ page. length page.content ≡ page_size) packet.pages

-- the bytes of the head and of the pages that were given
abbrev pub bytes_of : OpenPacket → List ℕ
bytes_of packet = packet.head ++ flat_map (λ page. page.content) packet.pages

-- all its pages were given
abbrev pub is_complete : OpenPacket → Bool
is_complete packet = length packet.pages == normal_count packet.head

-- the results given so far
pub record GivenSoFar : Type 0 where
  -- the hello, the packets of the complete rounds, and those of the open round
  pub read : ChannelProgress
  -- the packet after these, from its head on
  pub packet : Option OpenPacket

-- before the first byte
abbrev pub none_given : Settings → GivenSoFar
none_given given = record { read = start given.page_size given.uuid given.channels given.waiting; packet = None }

abbrev pub with_page : ℕ → List ℕ → Option OpenPacket → Option OpenPacket
with_page offset content None = None
with_page offset content (Some packet) = Some (record packet { pages = packet.pages ++ record { offset = offset; content = content } ∷ [] })

abbrev pub with_packet : ChannelProgress → Option OpenPacket → ChannelProgress
with_packet read None = read
with_packet read (Some packet) = after_packet read (bytes_of packet)

-- ---- what a reader represents

-- what such a reader holds
pub record PageHolder : Type 0 where
  pub given : Settings
  -- the id that the hello named
  pub hello : Option ℕ
  -- whether the open round has packets, and what the limit leaves after them
  pub has_packets : Bool
  pub room : Option ℕ
  -- the head of the packet that was begun, and how many of its pages were given
  pub packet : Option (List ℕ × ℕ)
  -- the bytes of the hello, the head or the page that isn't complete yet
  pub kept : List ℕ
  -- the page that was given last, if the reader has its bytes
  pub page : List ℕ
  -- the state of the bytes taken, whether or not the channel was ended
  pub found : ChannelState
  pub fed : ℕ
  pub ended : Bool

-- the content of a page that was given
abbrev pub content_of : PageContent → PageHolder → List ℕ
content_of (content.Lent bytes) r = bytes.now
content_of content.Kept r = r.page

-- the head of the packet that was begun
abbrev pub head_kept : Option (List ℕ × ℕ) → List ℕ
head_kept None = []
head_kept (Some packet) = packet.0

-- the results given, with this one
abbrev pub with_came : ChannelEvent → PageHolder → GivenSoFar → GivenSoFar
with_came (event.Hello id) r so_far = record so_far { read = record so_far.read { hello = Some id } }
with_came event.Head r so_far = record so_far { packet = Some (record { head = head_kept r.packet; pages = [] }) }
with_came (event.Page offset page) r so_far = record so_far { packet = with_page offset (content_of page r) so_far.packet }
with_came (event.Packet sync) r so_far = record { read = with_packet so_far.read so_far.packet; packet = None }
with_came event.More r so_far = so_far
with_came event.Over r so_far = so_far

-- how far the bytes are read: a packet is complete with its last page
abbrev pub read_to : ChannelProgress → Option OpenPacket → ChannelProgress
read_to read None = read
read_to read (Some packet) = if is_complete packet then after_packet read (bytes_of packet) else read

-- the bytes that were given of a packet that isn't complete
abbrev pub open_bytes : Option OpenPacket → List ℕ
open_bytes None = []
open_bytes (Some packet) = if is_complete packet then [] else bytes_of packet

-- how a reader keeps the packet that was begun
abbrev pub kept_of : Option OpenPacket → Option (List ℕ × ℕ)
kept_of None = None
kept_of (Some packet) = Some (packet.head, length packet.pages)

abbrev pub has_any : List (List ℕ) → Bool
has_any [] = false
has_any (packet ∷ packets) = true

-- A reader was made with these settings, took these bytes, and gave this of them.
pub record Gives (given : Settings) (text : List ℕ) (so_far : GivenSoFar) (r : PageHolder) : Type 0 where
  pub is_page_size : IsPageSize given.page_size
  pub has_settings : r.given ≡ given
  pub has_fed : r.fed ≡ length text
  -- the bytes are read as the results given; left are pages that were given and bytes that are kept
  pub reads : Reads (start given.page_size given.uuid given.channels given.waiting) text (read_to so_far.read so_far.packet) (open_bytes so_far.packet ++ r.kept) r.found
  pub is_open : IfSome so_far.packet (IsOpenPacket given.page_size)
  -- a packet isn't begun after a fault
  pub is_reading : IfSome so_far.packet (λ packet. r.found ≡ Reading)
  pub has_packet : r.packet ≡ kept_of so_far.packet
  pub has_hello : r.hello ≡ so_far.read.hello
  pub has_packets : r.has_packets ≡ has_any so_far.read.packets
  pub has_room : r.room ≡ room_after given.waiting so_far.read.packets

-- a statement on a reader that depends on nothing else than what it represents
abbrev pub HolderTells : PageHolder → (Settings → List ℕ → GivenSoFar → Type 0) → Type 0
HolderTells r says = (given : Settings) (text : List ℕ) (so_far : GivenSoFar) → Gives given text so_far r → says given text so_far

-- A call takes these bytes and returns this result: what the reader gave before, it has given with
-- the result added.
abbrev pub GivesOn : List ℕ → ChannelEvent → PageHolder → PageHolder → Type 0
GivesOn taken answer old new = (given : Settings) (text : List ℕ) (so_far : GivenSoFar)
    → Gives given text so_far old → Gives given (text ++ taken) (with_came answer new so_far) new

-- ---- what a result means

-- The packet has these fields: its normal pages are those that were given.
pub record Completes (page_size : ℕ) (packet : OpenPacket) (sync : Bool) : Type 0 where
  pub said : Fields
  pub is_packet : IsPacket page_size (bytes_of packet) said
  pub has_sync : said.sync ≡ sync
  pub has_pages : said.normal ≡ packet.pages

-- the result that follows those given so far
abbrev pub Comes : ℕ → ChannelEvent → GivenSoFar → Type 0
Comes page_size (event.Hello id) so_far = (so_far.read.hello ≡ None) × (so_far.packet ≡ None)
Comes page_size event.Head so_far = (so_far.read.hello ≢ None) × (so_far.packet ≡ None)
Comes page_size (event.Page offset page) so_far = IsSomeAnd so_far.packet (λ packet. length packet.pages < normal_count packet.head)
Comes page_size (event.Packet sync) so_far = IsSomeAnd so_far.packet (λ packet. Completes page_size packet sync)
Comes page_size other so_far = ⊤

-- More: all bytes of the piece were taken, and the next is needed. Over: the bytes taken have a
-- fault, which is never within a packet that was begun, or the channel was ended.
abbrev pub Stops : ChannelEvent → ℕ → List ℕ → PageHolder → Type 0
Stops event.More taken piece r = (taken ≡ length piece) × (r.found ≡ Reading) × IsFalse r.ended
Stops event.Over taken piece r = ((r.found ≢ Reading) × (r.packet ≡ None)) ⊎ IsTrue r.ended
Stops other taken piece r = ⊤

-- Fewer bytes are kept than the hello or the head has, or than the next page of the packet.
abbrev pub IsShort : PageHolder → Option (List ℕ × ℕ) → Type 0
IsShort r None = length r.kept < judged_len r.given.page_size r.hello
IsShort r (Some packet) = (packet.1 < normal_count packet.0) × (length r.kept < r.given.page_size) × (r.hello ≢ None)

-- So all that can be given is given.
abbrev pub NeedsMore : ChannelEvent → PageHolder → Type 0
NeedsMore event.More r = IsShort r r.packet
NeedsMore other r = ⊤

-- a page is complete
abbrev pub IsWhole : ChannelEvent → PageHolder → Type 0
IsWhole (event.Page offset page) r = length (content_of page r) ≡ r.given.page_size
IsWhole other r = ⊤

-- Only a page that a piece cut is copied: a page that is complete in the piece is lent from it.
abbrev pub CopiesCutPages : ChannelEvent → List ℕ → PageHolder → Type 0
CopiesCutPages (event.Page offset content.Kept) piece old = (old.kept ≢ []) ⊎ (length piece < old.given.page_size)
CopiesCutPages other piece old = ⊤

-- ---- how much is left

abbrev pub one_if_begun : Option (List ℕ × ℕ) → ℕ
one_if_begun None = 0
one_if_begun (Some packet) = 1

-- at most this many calls give something of the rest of a piece
abbrev pub left : ℕ → PageHolder → ℕ
left bytes r = 2 * bytes + one_if_begun r.packet

-- a call that neither needs more nor finds the end leaves less
abbrev pub LeavesLess : ChannelEvent → ℕ → List ℕ → PageHolder → PageHolder → Type 0
LeavesLess event.More taken piece old new = ⊤
LeavesLess event.Over taken piece old new = ⊤
LeavesLess other taken piece old new = left (length piece - taken) new < left (length piece) old

-- ---- its results

-- the head of the packet that was begun
abbrev pub head_of : Option OpenPacket → Option (List ℕ)
head_of None = None
head_of (Some packet) = Some packet.head

-- This is the reading of the bytes taken: its hello and its rounds are those that were given, and
-- so are the packets of the open round.
pub record HasReading (given : Settings) (text : List ℕ) (ended : Bool) (so_far : GivenSoFar) (state : ChannelState) : Type 0 where
  pub reading : ChannelReading
  pub is_reading : IsReading given text ended reading
  pub has_read : is_reading.to ≡ read_to so_far.read so_far.packet
  pub has_hello : reading.hello ≡ so_far.read.hello
  pub has_rounds : reading.rounds ≡ (read_to so_far.read so_far.packet).rounds
  pub has_state : reading.state ≡ state

-- ---- private

-- the first bytes of a page; the kept bytes may be the page that was given before it
abbrev pub begun_in : Bool → List ℕ → List ℕ
begun_in true page = []
begun_in false page = page

-- the bytes kept of a hello or a head, or after a head of a page
abbrev pub kept_in : Option ℕ → Bool → List ℕ → List ℕ → List ℕ
kept_in None has_page head page = head
kept_in (Some i) has_page head page = begun_in has_page page

-- the page that was given last, if it was gathered
abbrev pub page_in : Bool → List ℕ → List ℕ
page_in true page = page
page_in false page = []

abbrev pub packet_in : Option ℕ → List ℕ → Option (List ℕ × ℕ)
packet_in None head = None
packet_in (Some i) head = Some (head, i)

-- The kept bytes are a part of the next item. A packet that was begun has its head, and some of its
-- pages were given.
abbrev pub IsPart : ℕ → Option ℕ → Option ℕ → List ℕ → List ℕ → ChannelState → Type 0
IsPart page_size hello None head kept found = found ≡ Reading → length kept < judged_len page_size hello
IsPart page_size hello (Some i) head kept found =
    (hello ≢ None) × (found ≡ Reading) × IsPacketHead page_size head × (i ≤ normal_count head) × (length kept < page_size) × (i ≡ normal_count head → kept ≡ [])

-- what a reader keeps, with room for a head and a page
pub record IsHeld (page_size : ℕ) (hello pages : Option ℕ) (has_page : Bool) (head page : List ℕ) (head_room page_room : ℕ) (found : ChannelState) : Type 0 where
  pub is_page_size : IsPageSize page_size
  pub has_head_room : head_len page_size ≤ head_room
  pub has_page_room : page_size ≤ page_room
  pub is_page : has_page ≡ true → length page ≡ page_size
  pub is_part : IsPart page_size hello pages head (kept_in pages has_page head page) found
