-- What a single stream makes of memory that exists already.
use Rattle.std.specs.Prelude.{◌≡◌, ◌≢◌, ◌⊎◌, ◌++◌, ℕ, List, [], length, map, Some, None, Result, ⊤}
use Rattle.mig_mem.specs.RamTable.{RamTable}
use Rattle.mig_mem.specs.PlaceSet.{PlaceSet}
use Rattle.mig_mem.specs.Image.{Image, Page}
use Rattle.mig_mem.specs.Round.{with_round, with_rounds, all_pages}
use Rattle.mig_stream.specs.PageRecord.{PageRecord, page_of}
use Rattle.mig_stream.specs.Reading.{Settings, StreamReading, IsReading}
use Rattle.mig_assemble.specs.Judging.{places_of}
use Rattle.mig_assemble.specs.NamedPlaces.{HasPlaces, left_out}
use Rattle.mig_assemble.specs.Target.{none_named}
use Rattle.mig_load_types.specs.Settings.{single_of, for_table}
use Rattle.mig_load_types.specs.declared.settings.LoadSettings.{LoadSettings}
use Rattle.mig_load_types.specs.declared.fault.LoadFault.{LoadFault}
use Rattle.mig_load_types.specs.declared.fault.Fault.TheVariants.{OtherTable}
use Rattle.mig_single_load.specs.SingleLoad.{at_main, verdict_of}

-- the settings for the stream of a memory: those that are given, with its page size
abbrev pub settings_of : Image → LoadSettings → Settings
settings_of m given = single_of (for_table m.table given)

-- the stream has the memory's table, if its table is known
abbrev pub IsOfOwnTable : Image → StreamReading → Type 0
IsOfOwnTable m reading = (reading.table ≡ None) ⊎ (reading.table ≡ Some m.table)

-- it has another table
abbrev pub IsOfOtherTable : Image → StreamReading → Type 0
IsOfOtherTable m reading = (table : RamTable) × (reading.table ≡ Some table) × (table ≢ m.table)

abbrev pub HasOtherTable : LoadSettings → Image → List ℕ → Type 0
HasOtherTable given first text = (reading : StreamReading) × IsReading (settings_of first given) text reading × IsOfOtherTable first reading

-- the pages that records write, by the page size of a memory
abbrev pub pages_on : Image → List PageRecord → List Page
pages_on first records = map (page_of first.table.page_size) records

-- the pages of all records of some sections and of the one that isn't complete
abbrev pub pages_of_all : Image → List (List PageRecord) → List PageRecord → List Page
pages_of_all first sections open_section = all_pages (map (pages_on first) sections) ++ pages_on first open_section

-- The set has the places that the page records of the stream so far named, and no other. Of a
-- stream of another table it has none.
pub record HasNamedOnto (given : LoadSettings) (first : Image) (text : List ℕ) (named : PlaceSet) : Type 0 where
  pub reading : StreamReading
  pub is_reading : IsReading (settings_of first given) text reading
  pub own : IsOfOwnTable first reading → HasPlaces first.table (places_of (pages_of_all first reading.rounds is_reading.to.records)) named
  pub other : IsOfOtherTable first reading → named ≡ none_named first.table

-- So many pages of the memory have no record in the stream so far. All of them, if the stream has
-- another table.
pub record HasMissingOnto (given : LoadSettings) (first : Image) (text : List ℕ) (missing : ℕ) : Type 0 where
  pub reading : StreamReading
  pub is_reading : IsReading (settings_of first given) text reading
  pub own : IsOfOwnTable first reading → missing ≡ left_out first.table (places_of (pages_of_all first reading.rounds is_reading.to.records))
  pub other : IsOfOtherTable first reading → missing ≡ left_out first.table []

-- The memory has all page records of the stream so far, on top of what it held first: those of its
-- complete sections, `sections` of them, and then those of the section that isn't complete. Of a
-- stream of another table it has none.
pub record HasRecordsOnto (given : LoadSettings) (first : Image) (text : List ℕ) (memory : Image) (sections : ℕ) : Type 0 where
  pub reading : StreamReading
  pub is_reading : IsReading (settings_of first given) text reading
  pub same_table : memory.table ≡ first.table
  pub own : IsOfOwnTable first reading
      → (memory ≡ with_round (with_rounds first (map (pages_on first) reading.rounds)) (pages_on first is_reading.to.records)) × (sections ≡ length reading.rounds)
  pub other : IsOfOtherTable first reading → (memory ≡ first) × (sections ≡ 0)

-- The memory has the complete sections of the stream, on top of what it held first, and nothing
-- else. Of a stream of another table it has none.
pub record HasSectionsOnto (given : LoadSettings) (first : Image) (text : List ℕ) (memory : Image) (sections : ℕ) : Type 0 where
  pub reading : StreamReading
  pub is_reading : IsReading (settings_of first given) text reading
  pub same_table : memory.table ≡ first.table
  pub own : IsOfOwnTable first reading → (memory ≡ with_rounds first (map (pages_on first) reading.rounds)) × (sections ≡ length reading.rounds)
  pub other : IsOfOtherTable first reading → (memory ≡ first) × (sections ≡ 0)

-- the verdict on a stream so far, as if it ended here; or `OtherTable` if it has another table
pub record HasVerdictOnto (given : LoadSettings) (first : Image) (text : List ℕ) (verdict : Result ⊤ LoadFault) : Type 0 where
  pub reading : StreamReading
  pub is_reading : IsReading (settings_of first given) text reading
  pub own : IsOfOwnTable first reading → verdict ≡ verdict_of (length reading.rounds) reading.state
  pub other : IsOfOtherTable first reading → verdict ≡ at_main 0 OtherTable
