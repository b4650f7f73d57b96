-- The load of a single stream by whole sections, into memory that is there already: the memory has
-- the complete sections of the stream, on top of what it held first, and nothing else.
use Rattle.std.specs.Prelude.{◌≡◌, ◌≢◌, ◌<◌, ◌+◌, ◌^◌, ℕ, Bool, true, false, List, [], length, map, Option, Some, None, IfSome, IsFalse, Result, Ok, ⊤}
use Rattle.mig_mem.specs.PageSize.{IsPageSize}
use Rattle.mig_mem.specs.RamTable.{RamTable, IsTable}
use Rattle.mig_mem.specs.PlaceSet.{PlaceSet}
use Rattle.mig_mem.specs.Image.{Image, Page, IsImage}
use Rattle.mig_mem.specs.Round.{with_rounds}
use Rattle.mig_stream.specs.declared.item.Frame.TheVariants.{Ram, Machine}
use Rattle.mig_stream.specs.declared.item.StreamState.TheVariants.{Reading}
use Rattle.mig_stream.specs.Reading.{StreamReading, IsReading}
use Rattle.mig_stream.specs.Reader.{Reader, Stands, HasTable}
use Rattle.mig_assemble.specs.NamedPlaces.{named_by, missing_of}
use Rattle.mig_assemble.specs.Target.{none_named}
use Rattle.mig_load_types.specs.Settings.{LetsThrough}
use Rattle.mig_load_types.specs.declared.settings.LoadSettings.{LoadSettings}
use Rattle.mig_load_types.specs.declared.fault.LoadFault.{LoadFault}
use Rattle.mig_single_load.specs.Loader.{put_so_far}
use Rattle.mig_single_load.specs.InPlace.{settings_of, IsOfOwnTable, IsOfOtherTable, pages_on, HasSectionsOnto, HasVerdictOnto}
use Rattle.mig_single_load.specs.LoadInPlace.{settings_for, IsOfTable}
use Rattle.mig_single_load.specs.MachineSent.{IsSent, IsMachineSent}

-- ---- which pages the sections named

-- The set has the places that the complete sections of the stream named, and no other. Of a stream
-- of another table it has none.
pub record HasNamedSections (given : LoadSettings) (first : Image) (text : List ℕ) (named : PlaceSet) : Type 0 where
  pub reading : StreamReading
  pub is_reading : IsReading (settings_of first given) text reading
  pub own : IsOfOwnTable first reading → named ≡ named_by first.table (map (pages_on first) reading.rounds)
  pub other : IsOfOtherTable first reading → named ≡ none_named first.table

-- So many pages of the memory have no record in the complete sections of the stream. All of them,
-- if the stream has another table.
pub record HasMissingSections (given : LoadSettings) (first : Image) (text : List ℕ) (missing : ℕ) : Type 0 where
  pub reading : StreamReading
  pub is_reading : IsReading (settings_of first given) text reading
  pub own : IsOfOwnTable first reading → missing ≡ missing_of first.table (map (pages_on first) reading.rounds)
  pub other : IsOfOtherTable first reading → missing ≡ missing_of first.table []

-- ---- what a sender wrote

-- What a sender wrote of the memory's table and of rounds is loaded, whatever follows it: the
-- rounds are in the memory, on top of what it held, and the verdict is Ok. START and END count as a
-- section each. A limit on what waits lets the rounds through.
abbrev pub SentIsLoadedBySections : Type 0
SentIsLoadedBySections = (given : LoadSettings) (first : Image) (rounds : List (List Page)) (text : List ℕ) (memory : Image) (sections : ℕ) (verdict : Result ⊤ LoadFault)
    → given.frame ≡ Ram → LetsThrough given.waiting rounds → IsSent given.limit first.table rounds text
    → HasSectionsOnto given first text memory sections → HasVerdictOnto given first text verdict
    → (memory ≡ with_rounds first rounds) × (sections ≡ length rounds + 2) × (verdict ≡ Ok _)

-- So it is in a machine's frame, whatever follows RAM's END.
abbrev pub MachineSentIsLoadedBySections : Type 0
MachineSentIsLoadedBySections = (given : LoadSettings) (first : Image) (rounds : List (List Page)) (text : List ℕ) (memory : Image) (sections : ℕ) (verdict : Result ⊤ LoadFault)
    → given.frame ≡ Machine → LetsThrough given.waiting rounds → IsMachineSent given.limit first.table rounds text
    → HasSectionsOnto given first text memory sections → HasVerdictOnto given first text verdict
    → (memory ≡ with_rounds first rounds) × (sections ≡ length rounds + 2) × (verdict ≡ Ok _)

-- ---- what such a load keeps

pub record SectionsLoad : Type 0 where
  -- the reader of the stream, as long as its table is the memory's or isn't known yet
  pub reader : Option Reader
  -- the memory's table, the places that the complete sections named, and how many these are
  pub table : RamTable
  pub named : PlaceSet
  pub sections : ℕ
  pub fed : ℕ
  pub ended : Bool

abbrev pub sections_load : Option Reader → RamTable → PlaceSet → ℕ → ℕ → Bool → SectionsLoad
sections_load reader table named sections fed ended =
    record { reader = reader; table = table; named = named; sections = sections; fed = fed; ended = ended }

-- A reader was given the stream so far, and so many sections were taken from it. The stream has
-- this table, or its table isn't known yet. Without a reader it has another table.
abbrev pub IsReadBy : LoadSettings → RamTable → List ℕ → ℕ → Option Reader → Type 0
IsReadBy given table text sections (Some r) = IsOfTable given table text × Stands (settings_for table given) (put_so_far text false sections) r
IsReadBy given table text sections None = (other : RamTable) × HasTable (settings_for table given) text (Some other) × (other ≢ table)

-- The memory has the complete sections of the stream so far, and the set the places that they
-- named.
pub record HasSections (given : LoadSettings) (first : Image) (text : List ℕ) (memory : Image) (named : PlaceSet) (sections : ℕ) (reader : Option Reader) : Type 0 where
  pub is_page_size : IsPageSize first.table.page_size
  pub is_read : IsReadBy given first.table text sections reader
  pub in_memory : HasSectionsOnto given first text memory sections
  pub has_named : HasNamedSections given first text named

-- A load that was made for the memory `first` with these settings, and fed this stream, which may
-- have ended.
pub record LoadsSections (memory : Image) (given : LoadSettings) (first : Image) (s : SectionsLoad) (text : List ℕ) (ended : Bool) : Type 0 where
  pub is_table : IsTable first.table
  pub is_image : IsImage first
  pub same_table : first.table ≡ s.table
  pub has_fed : s.fed ≡ length text
  pub has_ended : s.ended ≡ ended
  pub has_sections : HasSections given first text memory s.named s.sections s.reader

-- more of the stream is read: it has the memory's table, or none yet, and neither its end nor a
-- fault
pub record GoesOn (given : LoadSettings) (first : Image) (text : List ℕ) : Type 0 where
  pub reading : StreamReading
  pub is_reading : IsReading (settings_of first given) text reading
  pub own : IsOfOwnTable first reading
  pub still : reading.state ≡ Reading

-- ---- in the midst of a call

-- the reader where a stream has the memory's table, or none yet
abbrev pub reader_if : Bool → Reader → Option Reader
reader_if true r = Some r
reader_if false r = None

-- A reader of a stream of this table was given this text, and so many sections were taken.
pub record Takes (given : LoadSettings) (table : RamTable) (text : List ℕ) (sections : ℕ) (r : Reader) : Type 0 where
  pub is_page_size : IsPageSize table.page_size
  pub has_table : HasTable (settings_for table given) text (Some table)
  pub stands : Stands (settings_for table given) (put_so_far text false sections) r

-- There is such a text, of fewer than 2^63 bytes.
pub record TakesSome (table : RamTable) (sections : ℕ) (r : Reader) : Type 0 where
  pub given : LoadSettings
  pub text : List ℕ
  pub is_short : length text < 2 ^ 63
  pub takes : Takes given table text sections r

-- A reader was given some text of this table, or of none yet, and so many sections were taken.
pub record ReadsSome (table : RamTable) (sections : ℕ) (r : Reader) : Type 0 where
  pub is_page_size : IsPageSize table.page_size
  pub given : LoadSettings
  pub text : List ℕ
  pub is_read : IsReadBy given table text sections (Some r)

-- the invariant of what a load keeps
pub record IsSectionsLoad (s : SectionsLoad) : Type 0 where
  pub is_table : IsTable s.table
  pub named_table : s.named.table ≡ s.table
  pub reads : IfSome s.reader (λ r. ReadsSome s.table s.sections r × (r.fed ≡ s.fed) × IsFalse r.ended)
