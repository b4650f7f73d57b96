-- The load of a file with mapped-ram from C: how it begins, and which bytes of the file it takes.
use Rattle.std.specs.Prelude.{ℕ, ◌≡◌, ◌≢◌, ◌+◌, ◌-◌, ◌<◌, ◌≤◌, ◌^◌, Bool, false, IsFalse, List, [], ◌∷◌, length, take, Option, None, Some, if◌then◌else◌}
use Rattle.mig_mem.specs.PageSize.{IsPageSize}
use Rattle.mig_mem.specs.RamTable.{RamTable}
use Rattle.mig_stream.specs.declared.item.Frame.TheVariants.{Machine}
use Rattle.mig_stream.specs.declared.item.Mode.TheVariants.{Single}
use Rattle.mig_stream.specs.declared.item.StreamState.{StreamState}
use Rattle.mig_stream.specs.declared.item.StreamState.TheVariants.{Reading, Closed, Bad}
use Rattle.mig_stream.specs.FaultNumber as stream_fault
use Rattle.mig_stream.specs.Reading.{Settings, settings, in_frame, with_waiting}
use Rattle.mig_stream.specs.Reader.{Reader, Stands, StepsOn, Tells, HasState, IsValidUpTo, with_piece}
use Rattle.mig_mapped.specs.declared.front.MappedFront.{MappedFront}
use Rattle.mig_mapped.specs.declared.settings.WordOrder.{WordOrder}
use Rattle.mig_mapped.specs.declared.settings.WordOrder.TheVariants.{Little, Big}
use Rattle.mig_mapped.specs.declared.settings.MappedSettings.{MappedSettings}
use Rattle.mig_mapped.specs.FaultNumber as mapped_fault
use Rattle.mig_mapped.specs.Block.{table_of}
use Rattle.mig_mapped.specs.Front.{Front, BeginsWith, HasFront, plain_front}
use Rattle.mig_mapped.specs.Head.{MappedProgress, start, entry_len, head_fault, after_head, most_file_bytes}
use Rattle.mig_c_calls.specs.Status.{IsOneOf, done, running, no_memory, bad_page_size, too_long, out_of_turn, stream_truncated}
use Rattle.mig_c_mapped.specs.declared.taken.Taken.{Taken}
use Rattle.mig_c_mapped.specs.declared.taken.Taken.TheVariants as taken

-- What a load of a file keeps: the index of the heads so far; a reader of the plain stream, which
-- has the front without the capability, the entries of the heads so far, and what follows the
-- pages; how many bytes after the pages it has; and whether an allocation was refused within a
-- head, after which nothing more is taken.
pub record ReadFile : Type 0 where
  pub index : MappedProgress
  pub stream : Reader
  pub tail : ℕ
  pub is_lost : Bool

-- the offset in the file of the next byte
abbrev pub place_of : ReadFile → ℕ
place_of f = f.index.place + f.tail

-- an offset that is reported is that one, if there are as many numbers
abbrev pub LiesAt : ℕ → ReadFile → Type 0
LiesAt place f = place_of f < 2 ^ 64 → place ≡ place_of f

-- ---- how it begins

-- the order of the bytes of a bitmap's word
abbrev pub order_of : Bool → WordOrder
order_of big_endian = if big_endian then Big else Little

-- A machine's stream, in which no page record may come: pages have places of their own.
abbrev pub file_settings : ℕ → Settings
file_settings page_size = with_waiting (Some 0) (in_frame Machine (settings Single page_size (2 ^ 40)))

-- A load that has taken the front that these bytes begin with. The first entry of the size list is
-- at an offset of the file.
pub record IsBegun (given : MappedSettings) (place : ℕ) (bytes : List ℕ) (front : MappedFront) (f : ReadFile) : Type 0 where
  pub has_front : HasFront bytes front
  pub has_index : f.index ≡ start given place front.total
  pub has_stream : (spelled : Front) → BeginsWith spelled bytes front
      → Stands (file_settings given.page_size) (record { text = plain_front spelled; ended = false; taken = 0 }) f.stream
  pub has_tail : f.tail ≡ 0
  pub is_kept : IsFalse f.is_lost

-- The effect of the call that begins a load: by the front of a file that these bytes begin with,
-- which lie at the offset `base` of the file. Otherwise the status is the first thing that is
-- wrong. With RUNNING they begin with no front: more bytes are needed, or the file is another one.
pub record OpensFile (page_size : ℕ) (big_endian : Bool) (base : ℕ) (bytes : List ℕ) (status : ℕ) (made : Option ReadFile) : Type 0 where
  pub is_named : IsOneOf (done ∷ running ∷ no_memory ∷ bad_page_size ∷ too_long ∷ []) status
  pub opens : status ≡ done → (front : MappedFront) × (f : ReadFile) × (made ≡ Some f)
      × IsBegun (record { page_size = page_size; order = order_of big_endian }) (base + front.place) bytes front f
  pub wrong_size : status ≡ bad_page_size → IsPageSize page_size → ⊥
  pub has_size : status ≢ bad_page_size → IsPageSize page_size
  pub no_front : status ≡ running → (front : MappedFront) → HasFront bytes front → ⊥
  pub long : status ≡ too_long → (front : MappedFront) × HasFront bytes front × (most_file_bytes ≤ base + front.place)
  pub none : status ≢ done → made ≡ None

-- ---- bytes that are taken

-- The next block's head is taken from the front of these bytes.
pub record TakesHead (bytes : List ℕ) (old new : ReadFile) : Type 0 where
  pub is_due : old.index.left ≢ 0
  pub is_good : head_fault old.index bytes ≡ None
  pub has_index : new.index ≡ after_head old.index bytes
  pub has_stream : StepsOn (with_piece (take (entry_len bytes) bytes)) old.stream new.stream
  pub same_tail : new.tail ≡ old.tail
  pub is_kept : IsFalse new.is_lost

-- of so many bytes after the pages that were taken, these belong to RAM, or come before a fault
abbrev pub HasTail : Reader → ℕ → StreamState → ℕ → Type 0
HasTail r taken Reading n = n ≡ taken
HasTail r taken Closed n = (valid : ℕ) × Tells r (λ given so_far. IsValidUpTo given so_far.text valid) × (n ≡ taken - (r.fed - valid))
HasTail r taken (Bad fault) n = (valid : ℕ) × Tells r (λ given so_far. IsValidUpTo given so_far.text valid) × (n ≡ taken - (r.fed - valid))

-- the stream of a load is in this state
abbrev pub IsIn : StreamState → ReadFile → Type 0
IsIn state f = Tells f.stream (λ given so_far. HasState given so_far.text so_far.ended state)

-- These bytes are taken as those that follow the last block's pages.
pub record TakesTail (bytes : List ℕ) (state : StreamState) (old new : ReadFile) : Type 0 where
  pub is_due : old.index.left ≡ 0
  pub same_index : new.index ≡ old.index
  pub has_stream : StepsOn (with_piece bytes) old.stream new.stream
  pub has_state : IsIn state new
  pub has_tail : HasTail new.stream (old.tail + length bytes) state new.tail
  pub is_kept : IsFalse new.is_lost

-- more bytes than an entry of the size list has
abbrev pub entry_room : ℕ
entry_room = 265

-- What becomes of bytes that lie at the next place of the file. After a refused allocation the load
-- is as before, or takes nothing more.
abbrev pub Takes : List ℕ → Taken → ReadFile → ReadFile → Type 0
Takes bytes (taken.Over state) old new = (new ≡ old) × (state ≢ Reading) × IsIn state old
Takes bytes taken.Nothing old new = (new ≡ old) × (old.index.left ≡ 0) × (length bytes ≡ 0)
Takes bytes taken.TooLong old new = (new ≡ old) × (most_file_bytes ≤ old.stream.fed + length bytes + entry_room)
Takes bytes taken.NoMemory old new = IsFalse new.is_lost → new ≡ old
Takes bytes (taken.Fault fault) old new = (new ≡ old) × (old.index.left ≢ 0) × (head_fault old.index bytes ≡ Some fault)
Takes bytes taken.Head old new = TakesHead bytes old new
Takes bytes (taken.Tail state) old new = TakesTail bytes state old new

-- ---- the same by the status that C sees

abbrev pub state_status : StreamState → ℕ
state_status Reading = running
state_status Closed = done
state_status (Bad fault) = stream_fault.fault_number fault

abbrev pub status_of : Taken → ℕ
status_of (taken.Over state) = state_status state
status_of taken.Nothing = stream_truncated
status_of taken.TooLong = too_long
status_of taken.NoMemory = no_memory
status_of (taken.Fault fault) = mapped_fault.fault_number fault
status_of taken.Head = running
status_of (taken.Tail state) = state_status state

-- The bytes are taken, or why they aren't, with the offset of the file at which the next byte is,
-- or what has a fault.
pub record TakesBytes (bytes : List ℕ) (status place : ℕ) (old new : ReadFile) : Type 0 where
  pub what : Taken
  pub takes : Takes bytes what old new
  pub has_status : status ≡ status_of what
  pub has_place : LiesAt place new

-- The table is that of the blocks whose heads were taken, once these are all.
pub record CopiesTable (status : ℕ) (made : Option RamTable) (f : ReadFile) : Type 0 where
  pub is_named : IsOneOf (done ∷ no_memory ∷ out_of_turn ∷ []) status
  pub copies : status ≡ done → made ≡ Some (table_of f.index.given.page_size f.index.blocks)
  pub is_whole : status ≡ done → f.index.left ≡ 0
  pub is_early : status ≡ out_of_turn → f.index.left ≢ 0
