-- A load of one stream into blocks of C by whole sections: what each call does, by its status.
-- Between two calls the blocks have the complete sections on top of what they held, and nothing
-- else. Its only source is the main stream.
use Rattle.std.specs.Prelude.{◌≡◌, ◌≢◌, ◌+◌, ◌^◌, ◌++◌, ◌↔◌, ℕ, Bool, true, false, List, [], ◌∷◌, length, Option, None, Some, IsTrue, IsFalse, Result, ⊤}
use Rattle.mig_mem.specs.RamTable.{RamTable}
use Rattle.mig_mem.specs.Image.{Image}
use Rattle.mig_mem.specs.Lent.{FitTable, lent_image}
use Rattle.mig_stream.specs.declared.item.Frame.{Frame}
use Rattle.mig_stream.specs.Reader.{IsFinal}
use Rattle.mig_load_types.specs.declared.settings.LoadSettings.{LoadSettings}
use Rattle.mig_load_types.specs.declared.fault.LoadFault.{LoadFault}
use Rattle.mig_single_load.specs.InPlace.{settings_of, HasOtherTable, HasVerdictOnto}
use Rattle.mig_single_load.specs.LoadInPlace.{HasClosedAtOnto, IsValidUpToOnto}
use Rattle.mig_sections.specs.Sections.{SectionsLoad, LoadsSections, HasMissingSections, GoesOn}
use Rattle.mig_sources.specs.declared.source.Source.{Source}
use Rattle.mig_sources.specs.declared.source.Source.TheVariants as source
use Rattle.mig_c_loads.specs.declared.fault.FoundFault.{FoundFault}
use Rattle.mig_c_calls.specs.Status.{IsOneOf, done, running, no_memory, is_over, too_long, bad_length, bad_frame, bad_source}
use Rattle.mig_c_loads.specs.Frames.{frame_of}
use Rattle.mig_c_loads.specs.Found.{seen_so_far, if_told}
use Rattle.mig_c_loads.specs.InPlace.{settings_into, MayFeed}
use Rattle.mig_c_loads.specs.OneStream.{fault_in}

-- a statement on what a load stands for, whatever blocks and stream those are
abbrev pub StandsSo : SectionsLoad → (LoadSettings → Image → List ℕ → Bool → Type 0) → Type 0
StandsSo s says = (memory : Image) (given : LoadSettings) (first : Image) (text : List ℕ) (ended : Bool) → LoadsSections memory given first s text ended → says given first text ended

-- With any blocks that fit this table it was fed nothing yet, of a stream that is read in this
-- frame, and may have so many page records in a section.
pub record BeginsSections (table : RamTable) (frame : Frame) (waiting : Option ℕ) (s : SectionsLoad) : Type 0 where
  pub same_table : s.table ≡ table
  pub none_fed : s.fed ≡ 0
  pub goes_on : IsFalse s.ended
  pub loads : (blocks : List (List ℕ)) → FitTable table blocks
      → LoadsSections (lent_image table blocks) (settings_into table frame waiting) (lent_image table blocks) s [] false

abbrev pub Opens : RamTable → Option Frame → Option ℕ → Option SectionsLoad → Type 0
Opens table None waiting made = ⊥
Opens table (Some frame) waiting None = ⊥
Opens table (Some frame) waiting (Some s) = BeginsSections table frame waiting s

-- What `new` does, with a table and the number of a frame.
pub record OpensSections (table : RamTable) (frame : ℕ) (waiting : Option ℕ) (status : ℕ) (made : Option SectionsLoad) : Type 0 where
  pub is_named : IsOneOf (done ∷ no_memory ∷ bad_frame ∷ []) status
  pub opens : status ≡ done → Opens table (frame_of frame) waiting made
  pub no_frame : status ≡ bad_frame → frame_of frame ≡ None
  pub has_frame : status ≢ bad_frame → frame_of frame ≢ None

-- What a memory and a load are after a piece was fed, or where an allocation was refused. Nothing
-- changes then, and the piece can be fed again. It isn't refused after the end byte, a fault of the
-- stream, or another table.
pub record FeedsSectionsMemory (piece : List ℕ) (before after : Image) (status : ℕ) (old new : SectionsLoad) : Type 0 where
  pub is_named : IsOneOf (done ∷ no_memory ∷ []) status
  pub takes : status ≡ done → (given : LoadSettings) (first : Image) (text : List ℕ) → LoadsSections before given first old text false
      → LoadsSections after given first new (text ++ piece) false
  pub counted : status ≡ done → new.fed ≡ old.fed + length piece
  pub same : status ≡ no_memory → (new ≡ old) × (after ≡ before)
  pub settled : status ≡ no_memory → (given : LoadSettings) (first : Image) (text : List ℕ) → LoadsSections before given first old text false
      → (IsFinal (settings_of first given) text → ⊥) × (HasOtherTable given first text → ⊥)
  pub goes_on : IsFalse new.ended
  pub same_table : new.table ≡ old.table

-- What `feed` does with blocks that hold these bytes: all bytes of the piece are taken, or nothing
-- changes. Where an allocation was refused each page holds what it held.
pub record FeedsSections (from : Source) (piece : List ℕ) (before after : List (List ℕ)) (taken status : ℕ) (old new : SectionsLoad) : Type 0 where
  pub is_named : IsOneOf (done ∷ no_memory ∷ is_over ∷ too_long ∷ bad_length ∷ bad_source ∷ []) status
  pub foreign : status ≡ bad_source → from ≢ source.Main
  pub is_main : status ≢ bad_source → from ≡ source.Main
  pub may_feed : status ≢ bad_source → MayFeed (length piece) before status old.table old.fed old.ended
  pub feeds : status ≡ done → FeedsSectionsMemory piece (lent_image old.table before) (lent_image old.table after) done old new
  pub runs_out : status ≡ no_memory → (new ≡ old) × (lent_image old.table after ≡ lent_image old.table before)
  pub same : status ≢ done → status ≢ no_memory → (new ≡ old) × (after ≡ before)
  pub all : status ≡ done → taken ≡ length piece
  pub none : status ≢ done → taken ≡ 0
  pub same_table : new.table ≡ old.table
  pub still_fit : FitTable old.table before → FitTable old.table after

-- What `end` does with a source. A second call changes nothing.
pub record EndsSections (from : Source) (status : ℕ) (old new : SectionsLoad) : Type 0 where
  pub is_named : IsOneOf (done ∷ bad_source ∷ []) status
  pub foreign : status ≡ bad_source → (from ≢ source.Main) × (new ≡ old)
  pub is_main : status ≡ done → (from ≡ source.Main) × (new ≡ record old { ended = true })
  pub loads : status ≡ done → (memory : Image) (given : LoadSettings) (first : Image) (text : List ℕ) (ended : Bool) → LoadsSections memory given first old text ended
      → LoadsSections memory given first new text true

-- Whether bytes of a source are read now: those of the main stream, if it wasn't ended, has the
-- table of the blocks or none yet, and neither its end nor a fault.
abbrev pub TakesSections : Source → Bool → SectionsLoad → Type 0
TakesSections from told s = StandsSo s (λ given first text ended. IsTrue told ↔ (from ≡ source.Main) × IsFalse s.ended × GoesOn given first text)

-- C sees the verdict on the stream so far; where it isn't over and has no fault so far, that more
-- of it is needed.
abbrev pub TellsVerdict : FoundFault → SectionsLoad → Type 0
TellsVerdict found s = StandsSo s (λ given first text ended. (verdict : Result ⊤ LoadFault) × HasVerdictOnto given first text verdict × (found ≡ seen_so_far ended verdict))

-- The fault of a source. If it isn't the main stream what C has stays.
pub record TellsFaultOf (from : Source) (status : ℕ) (before after : FoundFault) (s : SectionsLoad) : Type 0 where
  pub verdict : FoundFault
  pub tells : TellsVerdict verdict s
  pub stands : from ≡ source.Main → (after ≡ fault_in verdict) × (status ≡ after.number)
  pub foreign : from ≢ source.Main → (status ≡ bad_source) × (after ≡ before)

-- C sees how many of the bytes that were fed the stream has, once it is closed; before that the
-- number stays.
pub record TellsClosedAt (status before after : ℕ) (s : SectionsLoad) : Type 0 where
  pub is_named : IsOneOf (done ∷ running ∷ []) status
  pub closed : status ≡ done → StandsSo s (λ given first text ended. HasClosedAtOnto given first text (Some after))
  pub not_closed : status ≡ running → StandsSo s (λ given first text ended. HasClosedAtOnto given first text None)
  pub same : status ≢ done → after ≡ before

-- whether all rounds are in: the stream is closed
pub record TellsAllIn (told : Bool) (s : SectionsLoad) : Type 0 where
  pub status : ℕ
  pub at : ℕ
  pub closed : TellsClosedAt status 0 at s
  pub says : IsTrue told ↔ status ≡ done

-- C sees how many of the bytes of a source are complete items without a fault: a fault's item
-- begins after them. It isn't reported of a stream of another table.
pub record TellsValidUpTo (from : Source) (told : Bool) (before after : ℕ) (s : SectionsLoad) : Type 0 where
  pub stands : from ≡ source.Main → StandsSo s (λ given first text ended. IsValidUpToOnto given first text (if_told told after))
  pub same : IsFalse told → after ≡ before
  pub foreign : from ≢ source.Main → IsFalse told

-- C sees how many pages of the blocks no complete section named.
abbrev pub TellsMissing : ℕ → SectionsLoad → Type 0
TellsMissing missing s = StandsSo s (λ given first text ended. HasMissingSections given first text missing)
