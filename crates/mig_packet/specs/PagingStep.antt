-- How one call changes what a reader of pages holds.
use Rattle.std.specs.Prelude.{◌≡◌, ◌≢◌, ℕ, ◌+◌, ◌<◌, ◌≤◌, Bool, true, false, not, ◌==◌, if◌then◌else◌, List, [], ◌∷◌, ◌++◌, length, get_or, take, Option, Some, None, ⊤, ◌⊎◌}
use Rattle.mig_packet.specs.declared.state.ChannelState.{ChannelState}
use Rattle.mig_packet.specs.declared.state.ChannelState.TheVariants.{Reading, Closed, Bad}
use Rattle.mig_packet.specs.declared.fault.ChannelFault.TheVariants.{Truncated, Unsynced}
use Rattle.mig_packet.specs.declared.fault.ChannelFault.{ChannelFault}
use Rattle.mig_packet.specs.declared.page_reader.ChannelEvent.{ChannelEvent}
use Rattle.mig_packet.specs.declared.page_reader.ChannelEvent.TheVariants as event
use Rattle.mig_packet.specs.declared.page_reader.PageContent.{PageContent}
use Rattle.mig_packet.specs.declared.page_reader.PageContent.TheVariants as content
use Rattle.mig_packet.specs.Faults.{first_of}
use Rattle.mig_packet.specs.Packet.{normal_count, is_sync, offset_at}
use Rattle.mig_packet.specs.Hello.{hello_faults}
use Rattle.mig_packet.specs.Waiting.{next_room, packet_faults_within}
use Rattle.mig_packet.specs.Progress.{judged_len}
use Rattle.mig_packet.specs.Reading.{Settings}
use Rattle.mig_packet.specs.Paging.{PageHolder, content_of, Stops, IsShort, CopiesCutPages}

-- the faults of the next hello or head, if the open round has this much room
abbrev pub faults_of : Settings → Option ℕ → Option ℕ → List ℕ → List (Bool × ChannelFault)
faults_of given None room bytes = hello_faults given.uuid given.channels bytes
faults_of given (Some id) room bytes = packet_faults_within given.page_size room bytes

-- the first of them
abbrev pub fault_of : Settings → Option ℕ → Option ℕ → List ℕ → Option ChannelFault
fault_of given hello room bytes = first_of (faults_of given hello room bytes)

-- a complete hello or head, without a fault
pub record IsJudged (r : PageHolder) (bytes : List ℕ) : Type 0 where
  pub has_none_begun : r.packet ≡ None
  pub is_reading : r.found ≡ Reading
  pub has_length : length bytes ≡ judged_len r.given.page_size r.hello
  pub has_no_fault : fault_of r.given r.hello r.room bytes ≡ None

-- the bytes have a fault
pub record IsFaulty (bytes : List ℕ) (fault : ChannelFault) (old new : PageHolder) : Type 0 where
  pub has_none_begun : old.packet ≡ None
  pub is_reading : old.found ≡ Reading
  pub has_length : length bytes ≡ judged_len old.given.page_size old.hello
  pub has_fault : fault_of old.given old.hello old.room bytes ≡ Some fault
  pub leaves : new ≡ record old { found = Bad fault; kept = bytes; fed = new.fed }

-- one more page is given
pub record IsPageOf (offset : ℕ) (content : List ℕ) (packet : List ℕ × ℕ) (old new : PageHolder) : Type 0 where
  pub is_begun : old.packet ≡ Some packet
  pub is_reading : old.found ≡ Reading
  pub has_hello : old.hello ≢ None
  pub is_left : packet.1 < normal_count packet.0
  pub has_offset : offset ≡ offset_at packet.0 packet.1
  pub is_whole : length content ≡ old.given.page_size
  pub leaves : new ≡ record old { packet = Some (packet.0, packet.1 + 1); kept = []; page = new.page; fed = new.fed }

-- all pages of a packet were given
pub record IsLast (sync : Bool) (head : List ℕ) (old new : PageHolder) : Type 0 where
  pub is_begun : old.packet ≡ Some (head, normal_count head)
  pub has_kept : old.kept ≡ []
  pub has_sync : sync ≡ is_sync head
  pub leaves : new ≡ record old { packet = None; kept = []; page = new.page; has_packets = not sync; room = next_room old.given.waiting old.room head }

-- These bytes of a piece are taken, and this is returned.
abbrev pub Moves : ChannelEvent → List ℕ → PageHolder → PageHolder → Type 0
Moves (event.Hello id) taken old new = (old.hello ≡ None) × IsJudged old (old.kept ++ taken) × (id ≡ get_or (old.kept ++ taken) 24 0)
    × (new ≡ record old { hello = Some id; kept = []; fed = new.fed })
Moves event.Head taken old new = (old.hello ≢ None) × IsJudged old (old.kept ++ taken)
    × (new ≡ record old { packet = Some (old.kept ++ taken, 0); kept = []; page = new.page; fed = new.fed })
Moves (event.Page offset page) taken old new = (packet : List ℕ × ℕ) × IsPageOf offset (content_of page new) packet old new × (content_of page new ≡ old.kept ++ taken)
Moves (event.Packet sync) taken old new = (head : List ℕ) × IsLast sync head old new × (taken ≡ [])
Moves event.More taken old new = (old.found ≡ Reading) × IsShort new new.packet × (new ≡ record old { kept = old.kept ++ taken; page = new.page; fed = new.fed })
Moves event.Over taken old new = ((new ≡ old) × (taken ≡ [])) ⊎ ((fault : ChannelFault) × IsFaulty (old.kept ++ taken) fault old new)

-- a hello, a head or a page takes bytes
abbrev pub Gains : ChannelEvent → ℕ → Type 0
Gains (event.Hello id) count = 0 < count
Gains event.Head count = 0 < count
Gains (event.Page offset page) count = 0 < count
Gains other count = ⊤

-- The effect of one call, which takes `count` bytes of a piece.
pub record Steps (answer : ChannelEvent) (count : ℕ) (piece : List ℕ) (old new : PageHolder) : Type 0 where
  pub takes : count ≤ length piece
  pub gains : Gains answer count
  pub stops : Stops answer count piece new
  pub copies : CopiesCutPages answer piece old
  pub moves : Moves answer (take count piece) old new
  pub has_fed : new.fed ≡ old.fed + count

-- ---- a page from a piece

-- a page is complete with these bytes, gathered or lent; or all bytes are gathered, and it isn't
abbrev pub IsTaken : Option PageContent → List ℕ → List ℕ → ℕ → Type 0
IsTaken None bytes page size = (page ≡ bytes) × (length bytes < size)
IsTaken (Some content.Kept) bytes page size = (page ≡ bytes) × (length bytes ≡ size)
IsTaken (Some (content.Lent lent)) bytes page size = (lent.now ≡ bytes) × (page ≡ []) × (length bytes ≡ size)

-- a page is gathered only if bytes of it were there, or the piece is shorter
abbrev pub IsCut : Option PageContent → List ℕ → List ℕ → ℕ → Type 0
IsCut (Some content.Kept) kept piece size = (kept ≢ []) ⊎ (length piece < size)
IsCut other kept piece size = ⊤

-- ---- once the channel is ended

-- the hello was read, and no byte of a next item
abbrev pub is_between : Option ℕ → Option (List ℕ × ℕ) → List ℕ → Bool
is_between None packet kept = false
is_between (Some id) packet (byte ∷ kept) = false
is_between (Some id) None [] = true
is_between (Some id) (Some packet) [] = packet.1 == normal_count packet.0

-- the round is open: its last packet had no SYNC
abbrev pub is_unsynced : Bool → Option (List ℕ × ℕ) → Bool
is_unsynced has_packets None = has_packets
is_unsynced has_packets (Some packet) = not (is_sync packet.0)

abbrev pub closing_state : PageHolder → ChannelState
closing_state r =
    if is_between r.hello r.packet r.kept then (if is_unsynced r.has_packets r.packet then Bad Unsynced else Closed) else Bad Truncated
