-- A reader that gives the page records of a single stream as they are read, before their section is
-- complete, and the stream that it represents.
use Rattle.std.specs.Prelude.{◌≡◌, ◌<◌, ℕ, ◌+◌, ◌*◌, ◌^◌, List, [], ◌∷◌, ◌++◌, length, drop, Option, None, Some, IfSome, ⊤, ◌⊎◌}
use Rattle.mig_mem.specs.PageSize.{IsPageSize}
use Rattle.mig_stream.specs.declared.item.Mode.TheVariants.{Single}
use Rattle.mig_stream.specs.declared.item.StreamState.{StreamState}
use Rattle.mig_stream.specs.declared.item.StreamState.TheVariants.{Reading, Closed}
use Rattle.mig_stream.specs.declared.record_reader.RecordEvent.{RecordEvent}
use Rattle.mig_stream.specs.declared.record_reader.RecordEvent.TheVariants.{Records, Section, End}
use Rattle.mig_stream.specs.PageRecord.{PageRecord}
use Rattle.mig_stream.specs.Progress.{StreamProgress, start}
use Rattle.mig_stream.specs.Reading.{Settings, Front, Ends, StreamReading, IsReading}
use Rattle.mig_stream.specs.Reader.{with_taken, IsClosedAt, IsUnfinished}
use Rattle.mig_stream.specs.Round.{RoundOfRecords}

-- what such a reader holds
pub record Giver : Type 0 where
  -- how far it has read; its records and rounds are those that were not given yet
  pub progress : StreamProgress
  -- the bytes after it
  pub rest : List ℕ
  -- the state of the rest, once it reads no further
  pub found : Option StreamState
  -- its last result
  pub given : RoundOfRecords
  -- how many bytes the stream has up to the end of the rest
  pub fed : ℕ

-- the records that were given so far: those of each complete section, and those of the open one
pub record GivenSoFar : Type 0 where
  pub sections : List (List PageRecord)
  pub open_section : List PageRecord

abbrev pub none_given : GivenSoFar
none_given = record { sections = []; open_section = [] }

-- more records of the open section
abbrev pub with_more : List PageRecord → GivenSoFar → GivenSoFar
with_more records so_far = record so_far { open_section = so_far.open_section ++ records }

-- the last records of the open section
abbrev pub with_last : List PageRecord → GivenSoFar → GivenSoFar
with_last records so_far = record { sections = so_far.sections ++ (so_far.open_section ++ records) ∷ []; open_section = [] }

-- what giving these records adds
abbrev pub with_given : RecordEvent → List PageRecord → GivenSoFar → GivenSoFar
with_given Records records so_far = with_more records so_far
with_given Section records so_far = with_last records so_far
with_given (End found) records so_far = so_far

-- ---- the records given, before the others

-- the first round with more records before its own; it is the open one if none is complete
abbrev pub rounds_behind : List PageRecord → List (List PageRecord) → List (List PageRecord)
rounds_behind before [] = []
rounds_behind before (round ∷ rounds) = (before ++ round) ∷ rounds

abbrev pub records_behind : List PageRecord → List (List PageRecord) → List PageRecord → List PageRecord
records_behind before [] records = before ++ records
records_behind before (round ∷ rounds) records = records

abbrev pub with_open : List PageRecord → StreamProgress → StreamProgress
with_open before c = record c { records = records_behind before c.rounds c.records; rounds = rounds_behind before c.rounds }

-- how far a stream has been read, with all records
abbrev pub all_read : GivenSoFar → StreamProgress → StreamProgress
all_read so_far c = with_taken so_far.sections (with_open so_far.open_section c)

-- ---- what the reader represents

-- The reader was made with these settings and this stream, and gave this so far.
pub record Gives (given : Settings) (text : List ℕ) (so_far : GivenSoFar) (r : Giver) : Type 0 where
  pub is_single : given.mode ≡ Single
  pub is_page_size : IsPageSize given.page_size
  pub front : List ℕ
  pub has_text : text ≡ front ++ r.rest
  pub leads : Front (start given.frame given.mode given.page_size given.limit given.waiting) front (all_read so_far r.progress)
  pub ends : IfSome r.found (λ found. Ends (all_read so_far r.progress) r.rest found)
  pub has_fed : length text < 2 ^ 64 → r.fed ≡ length text

-- A call takes this step: what the reader gave before it, it has given with the step done.
abbrev pub GivesOn : (GivenSoFar → GivenSoFar) → Giver → Giver → Type 0
GivesOn step old new = (given : Settings) (text : List ℕ) (so_far : GivenSoFar) → Gives given text so_far old → Gives given text (step so_far) new

-- ---- how much is left

-- how many records and rounds wait to be given
abbrev pub waiting_in : StreamProgress → ℕ
waiting_in c = length c.records + length c.rounds

abbrev pub to_go : Option StreamState → ℕ
to_go None = 1
to_go (Some found) = 0

-- at most this many calls give something before the end
abbrev pub left : Giver → ℕ
left r = 2 * length r.rest + waiting_in r.progress + to_go r.found

-- a call that doesn't give the end leaves less to be given
abbrev pub LeavesLess : RecordEvent → Giver → Giver → Type 0
LeavesLess (End found) old new = ⊤
LeavesLess other old new = left new < left old

-- ---- its results

-- a statement on a reader that depends on nothing else than what it represents
abbrev pub GiverTells : Giver → (Settings → List ℕ → GivenSoFar → Type 0) → Type 0
GiverTells r says = (given : Settings) (text : List ℕ) (so_far : GivenSoFar) → Gives given text so_far r → says given text so_far

-- If the reader gives no more, this is the reading of the stream: its rounds are the sections that
-- were given. A closed stream leaves none open.
pub record HasReading (given : Settings) (text : List ℕ) (so_far : GivenSoFar) (found : StreamState) : Type 0 where
  pub reading : StreamReading
  pub is_reading : IsReading given text reading
  pub has_sections : reading.rounds ≡ so_far.sections
  pub has_state : reading.state ≡ found
  pub has_open : is_reading.to.records ≡ so_far.open_section
  pub has_none_open : found ≡ Closed → so_far.open_section ≡ []

abbrev pub EndsSo : RecordEvent → Settings → List ℕ → GivenSoFar → Type 0
EndsSo (End found) given text so_far = HasReading given text so_far found
EndsSo other given text so_far = ⊤

-- the result at the end: the state of the stream, and no records
abbrev pub TellsFound : RecordEvent → Giver → Type 0
TellsFound (End found) r = (r.found ≡ Some found) × (r.given.records ≡ [])
TellsFound other r = ⊤

-- The stream is closed before these last bytes of it.
pub record IsBehind (given : Settings) (text rest : List ℕ) : Type 0 where
  pub closed_at : ℕ
  pub is_closed_at : IsClosedAt given text closed_at
  pub has_rest : rest ≡ drop closed_at text

-- ---- between two pieces of a stream

-- where a reader reads no further: all that was read is given
pub record HasNoneLeft (found : StreamState) (r : Giver) : Type 0 where
  pub has_found : r.found ≡ Some found
  pub has_no_records : r.progress.records ≡ []
  pub has_no_rounds : r.progress.rounds ≡ []

-- none is left once the end was given
abbrev pub LeavesNone : RecordEvent → Giver → Type 0
LeavesNone (End found) r = HasNoneLeft found r
LeavesNone other r = ⊤

-- the state between two pieces: how far the stream was read, the bytes after that, and the number
-- of all bytes
pub record Paused : Type 0 where
  pub progress : StreamProgress
  pub pending : List ℕ
  pub fed : ℕ

-- as a reader that reads no further
abbrev pub giver_at : Paused → Giver
giver_at p = record { progress = p.progress; rest = p.pending; found = Some Reading; given = record { page_size = p.progress.page_size; records = [] }; fed = p.fed }

-- The pieces so far are this stream, read with these settings, and this much of it was given.
abbrev pub PausesAt : Settings → List ℕ → GivenSoFar → Paused → Type 0
PausesAt given text so_far p = Gives given text so_far (giver_at p)

-- a statement on a pause that depends on nothing else than what was read and given
abbrev pub PauseTells : Paused → (Settings → List ℕ → GivenSoFar → Type 0) → Type 0
PauseTells p says = (given : Settings) (text : List ℕ) (so_far : GivenSoFar) → PausesAt given text so_far p → says given text so_far

-- ---- private

-- The pending bytes of earlier pieces are a part of an item; so are all unread bytes, once no more
-- can be read. Nothing is pending if the stream is closed: the unread bytes are then in the last
-- piece.
abbrev pub IsUnread : Option StreamState → StreamProgress → List ℕ → List ℕ → Type 0
IsUnread None c pending rest = (pending ≡ []) ⊎ IsUnfinished c pending
IsUnread (Some Reading) c pending rest = IsUnfinished c (pending ++ rest)
IsUnread (Some Closed) c pending rest = pending ≡ []
IsUnread (Some other) c pending rest = ⊤

-- all records were given, and the kept bytes are a part of an item
pub record IsPaused (p : Paused) : Type 0 where
  pub is_unfinished : IsUnfinished p.progress p.pending
  pub has_no_records : p.progress.records ≡ []
  pub has_no_rounds : p.progress.rounds ≡ []
