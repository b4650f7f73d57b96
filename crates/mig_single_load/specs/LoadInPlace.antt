-- The load in place of a single stream: it writes each page when its bytes have come, before its
-- section is judged.
use Rattle.std.specs.Prelude.{◌≡◌, ◌≢◌, ◌⊎◌, ◌≤◌, ◌<◌, ◌+◌, ◌^◌, ◌++◌, ℕ, Bool, List, length, map, Option, Some, None, IfSome, Result, Ok, ⊤, All}
use Rattle.mig_mem.specs.RamTable.{RamTable, IsTable}
use Rattle.mig_mem.specs.Place.{IsPlace}
use Rattle.mig_mem.specs.declared.place.Place.{Place}
use Rattle.mig_mem.specs.PlaceSet.{PlaceSet}
use Rattle.mig_mem.specs.Image.{Image, Page, IsImage, content_at}
use Rattle.mig_mem.specs.Round.{IsRound, with_round, with_rounds, all_pages}
use Rattle.mig_stream.specs.declared.item.StreamState.{StreamState}
use Rattle.mig_stream.specs.declared.item.StreamState.TheVariants as state
use Rattle.mig_stream.specs.declared.record_reader.RecordEvent.{RecordEvent}
use Rattle.mig_stream.specs.declared.record_reader.RecordEvent.TheVariants as gave
use Rattle.mig_stream.specs.Reading.{Settings, StreamReading, IsReading}
use Rattle.mig_stream.specs.Reader.{HasTable, IsValidUpTo, HasClosedAt}
use Rattle.mig_stream.specs.Text.{total_bytes}
use Rattle.mig_stream.specs.Written.{single}
use Rattle.mig_stream.specs.Giving.{Giver, GivenSoFar, with_given, Gives, EndsSo, LeavesNone, HasNoneLeft, HasReading, Paused, PausesAt}
use Rattle.mig_assemble.specs.Judging.{places_of}
use Rattle.mig_assemble.specs.NamedPlaces.{HasPlaces}
use Rattle.mig_load_types.specs.Settings.{single_of, for_table, ram_settings}
use Rattle.mig_load_types.specs.declared.settings.LoadSettings.{LoadSettings}
use Rattle.mig_load_types.specs.declared.fault.LoadFault.{LoadFault}
use Rattle.mig_single_load.specs.declared.in_place_state.LoadState.{LoadState}
use Rattle.mig_single_load.specs.declared.in_place_state.LoadState.TheVariants as load_state
use Rattle.mig_single_load.specs.InPlace.{settings_of, IsOfOwnTable, IsOfOtherTable, pages_on, HasRecordsOnto, HasSectionsOnto, HasNamedOnto, HasVerdictOnto}

-- ---- what the memory holds

-- A place without a record in the section that isn't complete holds what the complete sections
-- left.
abbrev pub InPlaceKeepsOtherPlaces : Type 0
InPlaceKeepsOtherPlaces = (given : LoadSettings) (first : Image) (text : List ℕ) (memory : Image) (sections : ℕ) (has : HasRecordsOnto given first text memory sections) (p : Place)
    → IsOfOwnTable first has.reading → IsPlace first.table p → All (λ r. r.place ≢ p) has.is_reading.to.records
    → content_at memory p ≡ content_at (with_rounds first (map (pages_on first) has.reading.rounds)) p

-- Where the verdict is Ok the memory has the complete sections and nothing else.
abbrev pub InPlaceOkIsWhole : Type 0
InPlaceOkIsWhole = (given : LoadSettings) (first : Image) (text : List ℕ) (memory : Image) (sections : ℕ) → IsTable first.table → IsImage first
    → HasRecordsOnto given first text memory sections → HasVerdictOnto given first text (Ok _) → HasSectionsOnto given first text memory sections

-- The stream that a sender made of the memory's table and of rounds is loaded: these rounds are in
-- the memory, and the verdict is Ok. START and END count as a section each.
abbrev pub SentIsLoadedInPlace : Type 0
SentIsLoadedInPlace = (limit : ℕ) (first : Image) (rounds : List (List Page)) (memory : Image) (sections : ℕ) (verdict : Result ⊤ LoadFault) → IsTable first.table → IsImage first
    → total_bytes first.table ≤ limit → All (IsRound first.table) rounds
    → HasRecordsOnto (ram_settings first.table.page_size limit) first (single first.table rounds) memory sections
    → HasVerdictOnto (ram_settings first.table.page_size limit) first (single first.table rounds) verdict
    → (memory ≡ with_rounds first rounds) × (sections ≡ length rounds + 2) × (verdict ≡ Ok _)

-- ---- what such a load keeps

pub record LoadInPlace : Type 0 where
  -- the pause after which the stream is read on, if it is
  pub pause : Option Paused
  pub state : LoadState
  -- the memory's table, the places that the records so far named, and how many sections are
  -- complete
  pub table : RamTable
  pub named : PlaceSet
  pub rounds : ℕ
  pub fed : ℕ
  pub ended : Bool

abbrev pub load_in_place : Option Paused → LoadState → RamTable → PlaceSet → ℕ → ℕ → Bool → LoadInPlace
load_in_place pause state table named rounds fed ended =
    record { pause = pause; state = state; table = table; named = named; rounds = rounds; fed = fed; ended = ended }

-- the settings of the reader of a single stream of this table
abbrev pub settings_for : RamTable → LoadSettings → Settings
settings_for table given = single_of (for_table table given)

-- the stream has this table, or its table isn't known yet
abbrev pub IsOfTable : LoadSettings → RamTable → List ℕ → Type 0
IsOfTable given table text = HasTable (settings_for table given) text None ⊎ HasTable (settings_for table given) text (Some table)

-- all pages that a reader gave so far, in the order of the stream
abbrev pub given_pages : Image → GivenSoFar → List Page
given_pages first so_far = all_pages (map (pages_on first) so_far.sections) ++ pages_on first so_far.open_section

-- their places
abbrev pub given_places : Image → GivenSoFar → List Place
given_places first so_far = places_of (given_pages first so_far)

-- The pause is at the end of the stream so far, all records of which are in the memory. The
-- stream's table is the memory's, or isn't known yet.
pub record PausesOnto (given : LoadSettings) (first : Image) (text : List ℕ) (p : Paused) (memory : Image) (sections : ℕ) : Type 0 where
  pub so_far : GivenSoFar
  pub pauses : PausesAt (settings_of first given) text so_far p
  pub is_own : IsOfTable given first.table text
  pub has_memory : memory ≡ with_round first (given_pages first so_far)
  pub has_sections : sections ≡ length so_far.sections

-- the state by a reading of the stream: it continues, is closed, has a fault, or has another table
abbrev pub IsInState : Image → StreamReading → Option Paused → LoadState → Type 0
IsInState first reading (Some p) (load_state.Stream found at) = IsOfOwnTable first reading × (found ≡ state.Reading) × (reading.state ≡ found)
IsInState first reading None (load_state.Stream found at) = IsOfOwnTable first reading × (found ≢ state.Reading) × (reading.state ≡ found)
IsInState first reading None load_state.OtherTable = IsOfOtherTable first reading
IsInState first reading pause other = ⊥

-- up to which byte the stream is valid, as long as the load reads it as that of its memory
abbrev pub IsReadTo : LoadSettings → Image → List ℕ → LoadState → Type 0
IsReadTo given first text (load_state.Stream found at) = IsValidUpTo (settings_of first given) text at
IsReadTo given first text other = ⊤

-- The memory has all records of the stream so far, and `pause` and `found` are what the load keeps
-- of it.
pub record StandsOnto (given : LoadSettings) (first : Image) (text : List ℕ) (memory : Image) (sections : ℕ) (pause : Option Paused) (found : LoadState) : Type 0 where
  pub has_records : HasRecordsOnto given first text memory sections
  pub pauses : IfSome pause (λ p. PausesOnto given first text p memory sections)
  pub is_in_state : IsInState first has_records.reading pause found
  pub is_read_to : IsReadTo given first text found

-- The pause is at the end of the stream so far, and the set has the places of all its records.
pub record NamesAt (given : LoadSettings) (first : Image) (text : List ℕ) (p : Paused) (named : PlaceSet) (sections : ℕ) : Type 0 where
  pub so_far : GivenSoFar
  pub pauses : PausesAt (settings_of first given) text so_far p
  pub is_own : IsOfTable given first.table text
  pub has_named : HasPlaces first.table (given_places first so_far) named
  pub has_sections : sections ≡ length so_far.sections

-- The places that the stream's records so far named, and the pause after them.
pub record Names (given : LoadSettings) (first : Image) (text : List ℕ) (named : PlaceSet) (sections : ℕ) (pause : Option Paused) : Type 0 where
  pub has_named : HasNamedOnto given first text named
  pub at_pause : IfSome pause (λ p. NamesAt given first text p named sections)

-- A load that was made for the memory `first` with these settings, and fed this stream, which may
-- have ended. The memory is now `first` with all page records of the stream applied, and the places
-- that they named are known.
pub record LoadsInPlace (memory : Image) (given : LoadSettings) (first : Image) (s : LoadInPlace) (text : List ℕ) (ended : Bool) : Type 0 where
  pub is_table : IsTable first.table
  pub is_image : IsImage first
  pub same_table : first.table ≡ s.table
  pub has_fed : s.fed ≡ length text
  pub has_ended : s.ended ≡ ended
  pub stands : StandsOnto given first text memory s.rounds s.pause s.state
  pub names : Names given first text s.named s.rounds s.pause

-- A load that keeps its memory, too.
pub record InPlace : Type 0 where
  pub load : LoadInPlace
  pub memory : Image

abbrev pub in_place : LoadInPlace → Image → InPlace
in_place load memory = record { load = load; memory = memory }

-- It was made with the memory `first` and these settings, and fed this stream, which may have
-- ended.
abbrev pub LoadsOnto : LoadSettings → Image → InPlace → List ℕ → Bool → Type 0
LoadsOnto given first l text ended = LoadsInPlace l.memory given first l.load text ended

-- ---- where the stream is closed, and up to where it is valid

-- the offsets by the state of a load
abbrev pub closed_place : LoadState → Option ℕ
closed_place (load_state.Stream state.Closed at) = Some at
closed_place (load_state.Stream state.Reading at) = None
closed_place (load_state.Stream (state.Bad fault) at) = None
closed_place load_state.OtherTable = None
closed_place load_state.NoMemory = None

abbrev pub valid_place : LoadState → Option ℕ
valid_place (load_state.Stream found at) = Some at
valid_place load_state.OtherTable = None
valid_place load_state.NoMemory = None

-- Where the stream is closed, if it is. None for a stream of another table.
pub record HasClosedAtOnto (given : LoadSettings) (first : Image) (text : List ℕ) (n : Option ℕ) : Type 0 where
  pub reading : StreamReading
  pub is_reading : IsReading (settings_of first given) text reading
  pub own : IsOfOwnTable first reading → HasClosedAt (settings_of first given) text n
  pub other : IsOfOtherTable first reading → n ≡ None

-- Up to which byte the stream is valid. None for a stream of another table.
pub record IsValidUpToOnto (given : LoadSettings) (first : Image) (text : List ℕ) (n : Option ℕ) : Type 0 where
  pub reading : StreamReading
  pub is_reading : IsReading (settings_of first given) text reading
  pub own : IsOfOwnTable first reading → (at : ℕ) × (n ≡ Some at) × IsValidUpTo (settings_of first given) text at
  pub other : IsOfOtherTable first reading → n ≡ None

-- ---- after a refused allocation

-- The memory has the first of the stream's page records, in their order, on top of its earlier
-- content. Those of the sections counted are among them.
pub record HasSomeOnto (given : LoadSettings) (first : Image) (text : List ℕ) (memory : Image) (sections : ℕ) : Type 0 where
  pub so_far : GivenSoFar
  pub reader : Giver
  pub gives : Gives (settings_of first given) text so_far reader
  pub has_memory : memory ≡ with_round first (given_pages first so_far)
  pub has_sections : sections ≡ length so_far.sections

-- A load as above in which an allocation was refused. It has failed for good, and the memory has
-- the first of the records.
pub record LacksMemory (memory : Image) (given : LoadSettings) (first : Image) (s : LoadInPlace) (text : List ℕ) (ended : Bool) : Type 0 where
  pub is_table : IsTable first.table
  pub is_image : IsImage first
  pub same_table : first.table ≡ s.table
  pub has_fed : s.fed ≡ length text
  pub has_ended : s.ended ≡ ended
  pub has_some : HasSomeOnto given first text memory s.rounds
  pub has_no_pause : s.pause ≡ None
  pub has_failed : s.state ≡ load_state.NoMemory

-- such a load, with its memory
abbrev pub LacksOnto : LoadSettings → Image → InPlace → List ℕ → Bool → Type 0
LacksOnto given first l text ended = LacksMemory l.memory given first l.load text ended

-- ---- in the midst of a call

-- the reader has no more records
abbrev pub IsEnd : RecordEvent → Type 0
IsEnd (gave.End found) = ⊤
IsEnd other = ⊥

-- A reader gave this last, after `so_far`.
pub record GaveNext (given : LoadSettings) (table : RamTable) (text : List ℕ) (so_far : GivenSoFar) (gave : RecordEvent) (r : Giver) : Type 0 where
  pub gives : Gives (settings_for table given) text (with_given gave r.given.records so_far) r
  pub is_size : r.given.page_size ≡ table.page_size
  pub has_places : HasTable (settings_for table given) text (Some table) → All (λ x. IsPlace table x.place) r.given.records
  pub ends : EndsSo gave (settings_for table given) text so_far
  pub leaves_none : LeavesNone gave r

-- In addition the sections before are counted, and the stream has this table, so the records fit a
-- memory.
pub record PutsNext (given : LoadSettings) (table : RamTable) (text : List ℕ) (so_far : GivenSoFar) (gave : RecordEvent) (r : Giver) (sections : ℕ) : Type 0 where
  pub gave_next : GaveNext given table text so_far gave r
  pub has_sections : sections ≡ length so_far.sections
  pub has_table : IsEnd gave ⊎ HasTable (settings_for table given) text (Some table)

-- There is such a stream, of fewer than 2^63 bytes.
pub record PutsNextSome (table : RamTable) (gave : RecordEvent) (r : Giver) (sections : ℕ) : Type 0 where
  pub given : LoadSettings
  pub text : List ℕ
  pub is_short : length text < 2 ^ 63
  pub so_far : GivenSoFar
  pub puts : PutsNext given table text so_far gave r sections

-- All records of the stream were given, and this is its state.
pub record GaveAll (given : LoadSettings) (table : RamTable) (text : List ℕ) (so_far : GivenSoFar) (found : StreamState) (r : Giver) (sections : ℕ) : Type 0 where
  pub gives : Gives (settings_for table given) text so_far r
  pub has_reading : HasReading (settings_for table given) text so_far found
  pub has_none_left : HasNoneLeft found r
  pub has_sections : sections ≡ length so_far.sections

-- From a reader that gave this last, all records that follow were given.
abbrev pub GivesAll : RecordEvent → Giver → ℕ → StreamState → Giver → ℕ → Type 0
GivesAll gave r sections found s more = (given : LoadSettings) (table : RamTable) (text : List ℕ) (so_far : GivenSoFar) → PutsNext given table text so_far gave r sections
    → (then : GivenSoFar) × GaveAll given table text then found s more

-- These records were written into a memory that had those before.
abbrev pub PutsAll : RecordEvent → Giver → Image → ℕ → StreamState → Giver → Image → ℕ → Type 0
PutsAll gave r memory sections found s after more = (given : LoadSettings) (first : Image) (text : List ℕ) (so_far : GivenSoFar) → PutsNext given first.table text so_far gave r sections
    → memory ≡ with_round first (given_pages first so_far)
    → (then : GivenSoFar) × GaveAll given first.table text then found s more × (after ≡ with_round first (given_pages first then))

-- Their places were added to a set that had those of the records before.
abbrev pub NamesAll : RecordEvent → Giver → PlaceSet → ℕ → StreamState → Giver → PlaceSet → ℕ → Type 0
NamesAll gave r named sections found s after more = (given : LoadSettings) (first : Image) (text : List ℕ) (so_far : GivenSoFar) → PutsNext given first.table text so_far gave r sections
    → HasPlaces first.table (given_places first so_far) named
    → (then : GivenSoFar) × GaveAll given first.table text then found s more × HasPlaces first.table (given_places first then) after

-- The first of these records were written: an allocation was refused.
abbrev pub PutsSome : RecordEvent → Giver → Image → ℕ → Image → ℕ → Type 0
PutsSome gave r memory sections after more = (given : LoadSettings) (first : Image) (text : List ℕ) (so_far : GivenSoFar) → PutsNext given first.table text so_far gave r sections
    → memory ≡ with_round first (given_pages first so_far) → HasSomeOnto given first text after more

-- A pause at the end of some `fed` bytes of a stream of this table, with `sections` complete
-- sections.
pub record PausesSome (given : LoadSettings) (table : RamTable) (p : Paused) (sections fed : ℕ) : Type 0 where
  pub text : List ℕ
  pub has_fed : fed ≡ length text
  pub so_far : GivenSoFar
  pub pauses : PausesAt (settings_for table given) text so_far p
  pub is_own : IsOfTable given table text
  pub has_sections : sections ≡ length so_far.sections

-- the invariant of what a load in place keeps
pub record IsLoadInPlace (s : LoadInPlace) : Type 0 where
  pub is_table : IsTable s.table
  pub named_table : s.named.table ≡ s.table
  pub pauses : IfSome s.pause (λ p. (given : LoadSettings) × PausesSome given s.table p s.rounds s.fed)
