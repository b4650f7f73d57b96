-- How far a single stream was read, and what took its records.
use Rattle.std.specs.Prelude.{◌≡◌, ◌≢◌, ◌<◌, ◌+◌, ◌-◌, ◌^◌, ℕ, min, Bool, true, false, List, [], ◌++◌, length, Option, Some, None, All, MatchOption, ⊤}
use Rattle.std.specs.List.{flat_map}
use Rattle.mig_mem.specs.PageSize.{IsPageSize}
use Rattle.mig_mem.specs.RamTable.{RamTable}
use Rattle.mig_mem.specs.Place.{IsPlace}
use Rattle.mig_stream.specs.declared.record_reader.RecordEvent.{RecordEvent}
use Rattle.mig_stream.specs.declared.record_reader.RecordEvent.TheVariants as gave
use Rattle.mig_stream.specs.declared.item.StreamState.{StreamState}
use Rattle.mig_stream.specs.declared.item.StreamState.TheVariants as state
use Rattle.mig_stream.specs.PageRecord.{PageRecord}
use Rattle.mig_stream.specs.Round.{RoundOfRecords}
use Rattle.mig_stream.specs.Reading.{Settings}
use Rattle.mig_stream.specs.Reader.{HasTable, IsValidUpTo}
use Rattle.mig_stream.specs.Giving.{Giver, GivenSoFar, with_given, Gives, HasReading, Paused, PausesAt}

-- what a taker is, by the table and the records that it has taken
abbrev pub Holding : Type 1
Holding = Option RamTable → List PageRecord → Type 0

-- all records that were given so far, in the order of the stream
abbrev pub all_records : GivenSoFar → List PageRecord
all_records so_far = flat_map (λ r. r) so_far.sections ++ so_far.open_section

-- The taker has all of them, or there are none and it has no table either.
abbrev pub HoldsAll : (Option RamTable → List PageRecord → Type 0) → Settings → List ℕ → GivenSoFar → Bool → Type 0
HoldsAll holds given text so_far true = (table : RamTable) × HasTable given text (Some table) × holds (Some table) (all_records so_far)
HoldsAll holds given text so_far false = (so_far.sections ≡ []) × (so_far.open_section ≡ []) × holds None []

-- ---- the steps of a call

-- it still has what it had
abbrev pub Keeps : (Option RamTable → List PageRecord → Type 0) → (Option RamTable → List PageRecord → Type 0) → Type 0
Keeps old new = (table : Option RamTable) (records : List PageRecord) → old table records → new table records

abbrev pub Begins : (Option RamTable → List PageRecord → Type 0) → (Option RamTable → List PageRecord → Type 0) → Option RamTable → Bool → Bool → Type 0
Begins old new table true then = (then ≡ true) × Keeps old new
Begins old new (Some table) false then = (then ≡ true) × (old None [] → new (Some table) [])
Begins old new None false then = (then ≡ false) × Keeps old new

abbrev pub Puts : Bool → (Option RamTable → List PageRecord → Type 0) → (Option RamTable → List PageRecord → Type 0) → RoundOfRecords → Type 0
Puts true old new round = (table : RamTable) (records : List PageRecord) → All (λ x. IsPlace table x.place) round.records → round.page_size ≡ table.page_size
    → old (Some table) records → new (Some table) (records ++ round.records)
Puts false old new round = Keeps old new

abbrev pub Counts : RecordEvent → ℕ → ℕ → Type 0
Counts gave.Section sections more = more ≡ min (sections + 1) (2 ^ 64 - 1)
Counts other sections more = more ≡ sections

-- the reader has no more records
abbrev pub IsEnd : RecordEvent → Type 0
IsEnd (gave.End found) = ⊤
IsEnd other = ⊥

-- A reader gave this last, after `so_far`, and the taker has what came before.
pub record Waits (holds : Option RamTable → List PageRecord → Type 0) (given : Settings) (text : List ℕ) (so_far : GivenSoFar) (gave : RecordEvent) (r : Giver) (begun : Bool) (sections : ℕ) : Type 0 where
  pub is_short : length text < 2 ^ 63
  pub is_more : IsEnd gave → ⊥
  pub gives : Gives given text (with_given gave r.given.records so_far) r
  pub is_size : r.given.page_size ≡ given.page_size
  pub has_places : (table : RamTable) → HasTable given text (Some table) → All (λ x. IsPlace table x.place) r.given.records
  pub has_sections : sections ≡ length so_far.sections
  pub has_all : HoldsAll holds given text so_far begun

-- The taker has all that the reader gave.
pub record Taken (holds : Option RamTable → List PageRecord → Type 0) (given : Settings) (text : List ℕ) (so_far : GivenSoFar) (r : Giver) (begun : Bool) (sections : ℕ) : Type 0 where
  pub is_short : length text < 2 ^ 63
  pub gives : Gives given text so_far r
  pub has_sections : sections ≡ length so_far.sections
  pub has_all : HoldsAll holds given text so_far begun

-- From there to here all was taken.
abbrev pub TakesOn : (Option RamTable → List PageRecord → Type 0) → Giver → Bool → ℕ → (Option RamTable → List PageRecord → Type 0) → Giver → Bool → ℕ → Type 0
TakesOn old r begun sections new s then more = (given : Settings) (text : List ℕ) (so_far : GivenSoFar) → Taken old given text so_far r begun sections
    → (now : GivenSoFar) × Taken new given text now s then more

abbrev pub TakesAll : (Option RamTable → List PageRecord → Type 0) → Giver → Bool → ℕ → (Option RamTable → List PageRecord → Type 0) → Giver → Bool → ℕ → StreamState → Type 0
TakesAll old r begun sections new s then more found = (given : Settings) (text : List ℕ) (so_far : GivenSoFar) → Taken old given text so_far r begun sections
    → (now : GivenSoFar) × Taken new given text now s then more × HasReading given text now found

-- ---- between two pieces

-- The stream so far was read with these settings: this is its state, so many sections are complete,
-- it is valid up to there, and the taker has all of its records.
pub record Stands (holds : Option RamTable → List PageRecord → Type 0) (given : Settings) (text : List ℕ) (pause : Option Paused) (found : StreamState) (sections valid : ℕ) (begun : Bool) : Type 0 where
  pub is_page_size : IsPageSize given.page_size
  pub so_far : GivenSoFar
  pub has_reading : HasReading given text so_far found
  pub has_sections : sections ≡ length so_far.sections
  pub has_valid : IsValidUpTo given text valid
  pub has_all : HoldsAll holds given text so_far begun
  pub pauses : MatchOption pause (found ≢ state.Reading) (PausesAt given text so_far)
