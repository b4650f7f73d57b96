-- The state of a reader, and the bytes that it represents.
use Rattle.std.specs.Prelude.{◌≡◌, ◌≢◌, ℕ, ◌+◌, ◌<◌, Bool, true, false, List, [], ◌++◌, length, slice_index_or, Option, Some, None}
use Rattle.mig_mem.specs.RamTable.{RamTable}
use Rattle.mig_stream.specs.declared.item.StreamState.{StreamState}
use Rattle.mig_stream.specs.declared.item.StreamState.TheVariants.{Reading, Closed}
use Rattle.mig_stream.specs.PageRecord.{PageRecord}
use Rattle.mig_stream.specs.Progress.{StreamProgress, start}
use Rattle.mig_stream.specs.Items.{size}
use Rattle.mig_stream.specs.Reading.{Front, Reads, Settings, StreamReading, IsReading, state_at}

-- what a reader holds
pub record Reader : Type 0 where
  -- how far it has read; its rounds are those that were not taken yet
  pub progress : StreamProgress
  -- the bytes after it: a part of an item
  pub pending : List ℕ
  -- the state of the bytes fed, whether or not the stream has ended
  pub found : StreamState
  -- how many bytes fed are complete items without a fault
  pub valid_up_to : ℕ
  pub fed : ℕ
  pub ended : Bool

-- these bytes are a part of the next item, and not all of it
abbrev pub IsUnfinished : StreamProgress → List ℕ → Type 0
IsUnfinished c bytes = length bytes < size c.page_size c.due bytes

-- these bytes are read up to `to`; the last `left` of them aren't read, and the pending ones of
-- these are kept, a part of an item
pub record ReadsOn (from : StreamProgress) (bytes : List ℕ) (to : StreamProgress) (pending : List ℕ) (left : ℕ) (state : StreamState) : Type 0 where
  pub rest : List ℕ
  pub reads : Reads from bytes to rest state
  pub has_left : length rest ≡ left
  pub has_rest : state ≡ Reading → rest ≡ pending

-- with the rounds that were taken before
abbrev pub with_taken : List (List PageRecord) → StreamProgress → StreamProgress
with_taken taken c = record c { rounds = taken ++ c.rounds }

-- ---- what a reader represents

-- what a reader was given so far: this stream, whether it was ended, and how many rounds were taken
-- from it
pub record SoFar : Type 0 where
  pub text : List ℕ
  pub ended : Bool
  pub taken : ℕ

abbrev pub nothing_yet : SoFar
nothing_yet = record { text = []; ended = false; taken = 0 }

-- after one more piece of the stream
abbrev pub with_piece : List ℕ → SoFar → SoFar
with_piece piece so_far = record so_far { text = so_far.text ++ piece }

-- after its end
abbrev pub over : SoFar → SoFar
over so_far = record so_far { ended = true }

-- after one more round was taken
abbrev pub one_taken : SoFar → SoFar
one_taken so_far = record so_far { taken = so_far.taken + 1 }

-- The reader was made with these settings, and was given this so far.
pub record Stands (given : Settings) (so_far : SoFar) (r : Reader) : Type 0 where
  pub has_fed : r.fed ≡ length so_far.text
  pub has_ended : r.ended ≡ so_far.ended
  pub rounds : List (List PageRecord)
  pub has_taken : length rounds ≡ so_far.taken
  pub rest : List ℕ
  pub reads : Reads (start given.frame given.mode given.page_size given.limit given.waiting) so_far.text (with_taken rounds r.progress) rest r.found
  pub has_pending : r.found ≡ Reading → rest ≡ r.pending
  pub has_valid_up_to : r.valid_up_to + length rest ≡ length so_far.text

-- A call takes this step: if the reader represented this before it, it represents it with the step
-- done.
abbrev pub StepsOn : (SoFar → SoFar) → Reader → Reader → Type 0
StepsOn step old new = (given : Settings) (so_far : SoFar) → Stands given so_far old → Stands given (step so_far) new

-- a statement on a reader that depends on nothing else than what it represents
abbrev pub Tells : Reader → (Settings → SoFar → Type 0) → Type 0
Tells r says = (given : Settings) (so_far : SoFar) → Stands given so_far r → says given so_far

-- how many complete rounds wait to be taken
abbrev pub waiting : Reader → ℕ
waiting r = length r.progress.rounds

-- ---- the reading of a stream

-- the state of a stream that may have ended
abbrev pub HasState : Settings → List ℕ → Bool → StreamState → Type 0
HasState given text ended state = (reading : StreamReading) × IsReading given text reading × (state ≡ state_at ended reading.state)

-- no further byte changes the state: the stream is closed, or bad
abbrev pub IsFinal : Settings → List ℕ → Type 0
IsFinal given text = (reading : StreamReading) × IsReading given text reading × (reading.state ≢ Reading)

-- The first n bytes of the stream are complete items without a fault.
pub record HasFront (given : Settings) (text : List ℕ) (n : ℕ) : Type 0 where
  pub to : StreamProgress
  pub front : List ℕ
  pub rest : List ℕ
  pub has_text : text ≡ front ++ rest
  pub has_length : length front ≡ n
  pub leads : Front (start given.frame given.mode given.page_size given.limit given.waiting) front to

-- The first n bytes are the stream's longest front of complete items without a fault. If the stream
-- is bad, the item at fault begins after them.
pub record IsValidUpTo (given : Settings) (text : List ℕ) (n : ℕ) : Type 0 where
  pub to : StreamProgress
  pub rest : List ℕ
  pub state : StreamState
  pub reads : Reads (start given.frame given.mode given.page_size given.limit given.waiting) text to rest state
  pub has_length : length reads.front ≡ n

-- The stream is closed, and its first n bytes are the ones that belong to it. What follows them is
-- left.
pub record IsClosedAt (given : Settings) (text : List ℕ) (n : ℕ) : Type 0 where
  pub is_closed : HasState given text false Closed
  pub is_valid_up_to : IsValidUpTo given text n

-- where the stream is closed, if it is
abbrev pub HasClosedAt : Settings → List ℕ → Option ℕ → Type 0
HasClosedAt given text (Some n) = IsClosedAt given text n
HasClosedAt given text None = (reading : StreamReading) × IsReading given text reading × (reading.state ≢ Closed)

abbrev pub HasTable : Settings → List ℕ → Option RamTable → Type 0
HasTable given text table = (reading : StreamReading) × IsReading given text reading × (table ≡ reading.table)

-- the complete round with a number
abbrev pub HasRound : Settings → List ℕ → ℕ → List PageRecord → Type 0
HasRound given text i round =
    (reading : StreamReading) × IsReading given text reading × (i < length reading.rounds) × (slice_index_or reading.rounds i [] ≡ round)
