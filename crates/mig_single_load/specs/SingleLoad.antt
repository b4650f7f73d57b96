-- The answer of the load of a single stream: one function of the stream.
use Rattle.std.specs.Prelude.{◌≡◌, ◌⊎◌, ◌≤◌, ◌+◌, ℕ, List, map, length, take, Option, None, Some, Result, Ok, Err, ⊤, not}
use Rattle.std.specs.Option.{option_map, IsSomeAnd}
use Rattle.mig_mem.specs.RamTable.{RamTable}
use Rattle.mig_mem.specs.Place.{has_place}
use Rattle.mig_mem.specs.PlaceSet.{PlaceSet, places_where}
use Rattle.mig_mem.specs.Image.{Page, Image}
use Rattle.mig_mem.specs.Round.{after}
use Rattle.mig_stream.specs.declared.item.StreamState.{StreamState}
use Rattle.mig_stream.specs.declared.item.StreamState.TheVariants.{Reading, Closed, Bad}
use Rattle.mig_stream.specs.declared.fault.StreamFault.TheVariants.{Truncated}
use Rattle.mig_stream.specs.PageRecord.{PageRecord, page_of}
use Rattle.mig_stream.specs.Reading.{StreamReading, IsReading}
use Rattle.mig_stream.specs.Reader.{HasClosedAt, IsValidUpTo}
use Rattle.mig_assemble.specs.NamedPlaces.{named_by, missing_of}
use Rattle.mig_load_types.specs.Settings.{single_of}
use Rattle.mig_load_types.specs.declared.settings.LoadSettings.{LoadSettings}
use Rattle.mig_load_types.specs.declared.loaded.Loaded.{Loaded}
use Rattle.mig_load_types.specs.declared.fault.LoadFault.{LoadFault}
use Rattle.mig_load_types.specs.declared.fault.Origin.TheVariants as origin
use Rattle.mig_load_types.specs.declared.fault.Fault.{Fault}
use Rattle.mig_load_types.specs.declared.fault.Fault.TheVariants as fault

-- the memory after some sections of records, None without a table
abbrev pub memory_after : ℕ → Option RamTable → List (List PageRecord) → Option Image
memory_after page_size table sections = option_map (λ t. after t (map (map (page_of page_size)) sections)) table

-- the set of the places that some sections of records name, None without a table
abbrev pub named_after : ℕ → Option RamTable → List (List PageRecord) → Option PlaceSet
named_after page_size table sections = option_map (λ t. named_by t (map (map (page_of page_size)) sections)) table

-- how many pages of the table some sections of records don't name, None without a table
abbrev pub missing_after : ℕ → Option RamTable → List (List PageRecord) → Option ℕ
missing_after page_size table sections = option_map (λ t. missing_of t (map (map (page_of page_size)) sections)) table

-- the fault of a stream, after some complete sections
abbrev pub at_main : ℕ → Fault → Result ⊤ LoadFault
at_main rounds fault = Err (record { round = rounds; source = origin.Main; fault = fault })

-- Ok if the stream has its end byte, else its fault; a stream that ends before it was cut short
abbrev pub verdict_of : ℕ → StreamState → Result ⊤ LoadFault
verdict_of rounds Closed = Ok _
verdict_of rounds (Bad f) = at_main rounds (fault.Stream f)
verdict_of rounds Reading = at_main rounds (fault.Stream Truncated)

-- a refused allocation, after some sections
abbrev pub no_memory_at : ℕ → Result ⊤ LoadFault
no_memory_at rounds = Err (record { round = rounds; source = origin.Round; fault = fault.NoMemory })

-- The answer on a stream: the memory is that after its complete sections, None if its size list
-- isn't complete, and `rounds` is the number of them. It is Ok if the stream has its end byte, and
-- else the stream's first fault. It says how many pages these sections don't name, where the stream
-- is closed, and how long its valid prefix is.
pub record IsSingleAnswer {A : Type 0} (given : LoadSettings) (text : List ℕ) (a : Loaded A) : Type 0 where
  pub reading : StreamReading
  pub is_reading : IsReading (single_of given) text reading
  pub has_memory : a.memory ≡ memory_after given.page_size reading.table reading.rounds
  pub has_rounds : a.rounds ≡ length reading.rounds
  pub has_verdict : a.verdict ≡ verdict_of a.rounds reading.state
  pub has_missing : a.missing ≡ missing_after given.page_size reading.table reading.rounds
  pub has_closed_at : HasClosedAt (single_of given) text a.closed_at
  pub has_valid_up_to : IsSomeAnd a.valid_up_to (IsValidUpTo (single_of given) text)

-- The answer after a refused allocation: the memory is that after the sections counted, which the
-- stream has, or None if none was counted. It says nothing else of the stream.
pub record IsSingleWithoutMemory {A : Type 0} (given : LoadSettings) (text : List ℕ) (a : Loaded A) : Type 0 where
  pub reading : StreamReading
  pub is_reading : IsReading (single_of given) text reading
  pub has_verdict : a.verdict ≡ no_memory_at a.rounds
  pub has_rounds : a.rounds ≤ length reading.rounds
  pub has_memory : (a.memory ≡ memory_after given.page_size reading.table (take a.rounds reading.rounds)) ⊎ ((a.memory ≡ None) × (a.rounds ≡ 0))
  pub has_no_more : (a.missing ≡ None) × (a.closed_at ≡ None) × (a.valid_up_to ≡ None)

-- the answer of a stream that is closed at a byte: its memory, the set of the places that its
-- sections named, and how many sections it has
abbrev pub closed_answer : {A : Type 0} → Image → PlaceSet → ℕ → ℕ → Loaded A
closed_answer memory named sections at = record {
  memory = Some memory;
  rounds = sections;
  verdict = Ok _;
  missing = Some (length (places_where named.table (λ p. not (has_place named.marked p))));
  closed_at = Some at;
  valid_up_to = Some at;
}

-- the answer after a refused allocation before any section
abbrev pub unloaded : {A : Type 0} → Loaded A
unloaded = record { memory = None; rounds = 0; verdict = no_memory_at 0; missing = None; closed_at = None; valid_up_to = None }

-- The answer on the stream that a sender wrote of a table and rounds: the memory after these
-- rounds, and how many pages they don't name. START and END count as a section each.
pub record HasLoadedRounds {A : Type 0} (table : RamTable) (rounds : List (List Page)) (a : Loaded A) : Type 0 where
  pub has_memory : a.memory ≡ Some (after table rounds)
  pub has_rounds : a.rounds ≡ length rounds + 2
  pub has_verdict : a.verdict ≡ Ok _
  pub has_missing : a.missing ≡ Some (missing_of table rounds)
