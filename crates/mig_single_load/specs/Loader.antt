-- A loader that is fed a single stream in pieces, and what it represents.
use Rattle.std.specs.Prelude.{◌≡◌, ◌⊎◌, ◌<◌, ◌^◌, ℕ, Bool, List, length, map, take, Option, None, Some, IfSome, Result, ⊤}
use Rattle.std.specs.Option.{option_map, option_map_or}
use Rattle.mig_mem.specs.PageSize.{IsPageSize}
use Rattle.mig_mem.specs.RamTable.{RamTable}
use Rattle.mig_mem.specs.PlaceSet.{PlaceSet}
use Rattle.mig_mem.specs.Image.{Image, zero_image}
use Rattle.mig_mem.specs.Round.{with_rounds}
use Rattle.mig_stream.specs.PageRecord.{page_of}
use Rattle.mig_stream.specs.Reading.{StreamReading, IsReading}
use Rattle.mig_stream.specs.Reader.{Reader, SoFar, Stands, HasTable}
use Rattle.mig_assemble.specs.NamedPlaces.{named_by}
use Rattle.mig_assemble.specs.Target.{LoadTarget}
use Rattle.mig_load_types.specs.Settings.{single_of}
use Rattle.mig_load_types.specs.declared.settings.LoadSettings.{LoadSettings}
use Rattle.mig_load_types.specs.declared.loaded.Loaded.{Loaded}
use Rattle.mig_load_types.specs.declared.fault.LoadFault.{LoadFault}
use Rattle.mig_single_load.specs.SingleLoad.{memory_after, named_after, missing_after, verdict_of, no_memory_at, IsSingleAnswer, unloaded}

-- what a loader holds: the reader of its stream, and the memory that it loads, once that was
-- allocated
pub record Loader : Type 0 where
  pub reader : Reader
  pub target : Option LoadTarget

abbrev pub loader : Reader → Option LoadTarget → Loader
loader reader target = record { reader = reader; target = target }

-- a memory that has so many sections, which named these places
abbrev pub memory_with : Image → PlaceSet → ℕ → LoadTarget
memory_with memory named sections = record { memory = memory; named = named; rounds = sections; base = 0 }

-- its memory, the places that its sections named, and how many sections were put into that
abbrev pub memory_of : Loader → Option Image
memory_of l = option_map (λ t. t.memory) l.target

abbrev pub named_of : Loader → Option PlaceSet
named_of l = option_map (λ t. t.named) l.target

abbrev pub sections_loaded : Loader → ℕ
sections_loaded l = option_map_or (λ t. t.rounds) l.target 0

-- ---- the sections of a stream

-- All complete sections of the stream are in the memory, which is there exactly if the stream's
-- size list is complete. The places that they named are known.
pub record HasAllSections (given : LoadSettings) (l : Loader) (text : List ℕ) : Type 0 where
  pub reading : StreamReading
  pub is_reading : IsReading (single_of given) text reading
  pub has_memory : memory_of l ≡ memory_after given.page_size reading.table reading.rounds
  pub has_named : named_of l ≡ named_after given.page_size reading.table reading.rounds
  pub has_rounds : sections_loaded l ≡ length reading.rounds

-- The stream has a table, and the loader has no memory, since it couldn't be allocated: all
-- sections wait.
pub record Waits (given : LoadSettings) (l : Loader) (text : List ℕ) : Type 0 where
  pub table : RamTable
  pub has_table : HasTable (single_of given) text (Some table)
  pub has_no_memory : l.target ≡ None

-- a stream, whether it was ended, and how many of its sections are in the memory
abbrev pub put_so_far : List ℕ → Bool → ℕ → SoFar
put_so_far text ended n = record { text = text; ended = ended; taken = n }

-- The loader was made with these settings, and fed this stream, which may have ended. It has all
-- sections that are complete so far, or they wait.
pub record Loads (given : LoadSettings) (l : Loader) (text : List ℕ) (ended : Bool) : Type 0 where
  pub is_page_size : IsPageSize given.page_size
  pub stands : Stands (single_of given) (put_so_far text ended (sections_loaded l)) l.reader
  pub has_sections : HasAllSections given l text ⊎ Waits given l text

-- ---- its answers

-- the verdict on a stream so far: as if it ended here
pub record HasVerdict (given : LoadSettings) (text : List ℕ) (verdict : Result ⊤ LoadFault) : Type 0 where
  pub reading : StreamReading
  pub is_reading : IsReading (single_of given) text reading
  pub is_verdict : verdict ≡ verdict_of (length reading.rounds) reading.state

-- the verdict of a loader: that on its stream; or `NoMemory`, if its sections wait
abbrev pub Judges : LoadSettings → Loader → List ℕ → Result ⊤ LoadFault → Type 0
Judges given l text verdict =
    (HasAllSections given l text × HasVerdict given text verdict) ⊎ (Waits given l text × (verdict ≡ no_memory_at 0))

-- the answer of a loader: that on its stream; or `NoMemory`, if its sections wait
abbrev pub Answers : {A : Type 0} → LoadSettings → Loader → List ℕ → Loaded A → Type 0
Answers given l text a =
    (HasAllSections given l text × IsSingleAnswer given text a) ⊎ (Waits given l text × (a ≡ unloaded))

-- how many pages the stream's complete sections don't name
pub record HasMissing (given : LoadSettings) (text : List ℕ) (missing : Option ℕ) : Type 0 where
  pub reading : StreamReading
  pub is_reading : IsReading (single_of given) text reading
  pub is_count : missing ≡ missing_after given.page_size reading.table reading.rounds

-- how many pages a loader's stream lacks so far; None, too, if its sections wait
abbrev pub TellsMissing : LoadSettings → Loader → List ℕ → Option ℕ → Type 0
TellsMissing given l text missing =
    (HasAllSections given l text × HasMissing given text missing) ⊎ (Waits given l text × (missing ≡ None))

-- ---- during a call

-- The first sections of the stream are in the memory, on top of its earlier content: as many as the
-- loader counts.
pub record HasFirst (given : LoadSettings) (first : Image) (text : List ℕ) (t : LoadTarget) : Type 0 where
  pub has_table : HasTable (single_of given) text (Some first.table)
  pub has_memory : (reading : StreamReading) → IsReading (single_of given) text reading
      → t.memory ≡ with_rounds first (map (map (page_of given.page_size)) (take t.rounds reading.rounds))
  pub has_named : (reading : StreamReading) → IsReading (single_of given) text reading
      → t.named ≡ named_by first.table (map (map (page_of given.page_size)) (take t.rounds reading.rounds))

-- A reader was given this stream, and the sections that it gave are in the memory. Others may wait.
pub record HasPutSections (given : LoadSettings) (first : Image) (text : List ℕ) (ended : Bool) (r : Reader) (t : LoadTarget) : Type 0 where
  pub is_page_size : IsPageSize given.page_size
  pub stands : Stands (single_of given) (put_so_far text ended t.rounds) r
  pub has_first : HasFirst given first text t

-- It was given some stream, of fewer than 2^63 bytes.
pub record HasPutSectionsSome (r : Reader) (t : LoadTarget) : Type 0 where
  pub given : LoadSettings
  pub first : Image
  pub text : List ℕ
  pub ended : Bool
  pub is_short : length text < 2 ^ 63
  pub has_put : HasPutSections given first text ended r t

-- No section waits: all complete ones are in the memory.
pub record HasPutAllSections (given : LoadSettings) (first : Image) (text : List ℕ) (t : LoadTarget) : Type 0 where
  pub reading : StreamReading
  pub is_reading : IsReading (single_of given) text reading
  pub has_memory : t.memory ≡ with_rounds first (map (map (page_of given.page_size)) reading.rounds)
  pub has_named : t.named ≡ named_by first.table (map (map (page_of given.page_size)) reading.rounds)
  pub has_rounds : t.rounds ≡ length reading.rounds

-- The loader was fed this stream, and the sections that its reader gave are in the memory, which
-- began with zeros. Others may wait.
pub record WasFed (given : LoadSettings) (l : Loader) (text : List ℕ) (ended : Bool) : Type 0 where
  pub is_page_size : IsPageSize given.page_size
  pub stands : Stands (single_of given) (put_so_far text ended (sections_loaded l)) l.reader
  pub has_first : IfSome l.target (λ t. HasFirst given (zero_image t.memory.table) text t)

-- It was fed some stream, of fewer than 2^63 bytes.
pub record WasFedSome (l : Loader) : Type 0 where
  pub given : LoadSettings
  pub text : List ℕ
  pub ended : Bool
  pub is_short : length text < 2 ^ 63
  pub has_fed : WasFed given l text ended

-- It represents some stream, of fewer than 2^63 bytes.
pub record LoadsSome (l : Loader) : Type 0 where
  pub given : LoadSettings
  pub text : List ℕ
  pub ended : Bool
  pub is_short : length text < 2 ^ 63
  pub loads : Loads given l text ended
