-- A load of several channels into blocks of C: what each call does, by its status. The blocks are
-- passed to the call that feeds it, as the call before left them.
use Rattle.std.specs.Prelude.{◌≡◌, ◌≢◌, ◌⊎◌, ◌≤◌, ◌<◌, ◌+◌, ◌^◌, ℕ, List, [], ◌∷◌, length, take, IsTrue, IsFalse, ◌↔◌, Bool, Option, None, Some, ⊤}
use Rattle.mig_mem.specs.RamTable.{RamTable}
use Rattle.mig_mem.specs.Image.{Image, IsImage}
use Rattle.mig_mem.specs.Lent.{FitTable, lent_image}
use Rattle.mig_stream.specs.declared.item.Frame.{Frame}
use Rattle.mig_stream.specs.Reader.{HasClosedAt}
use Rattle.mig_load_types.specs.Settings.{for_table, main_of}
use Rattle.mig_load_types.specs.declared.settings.LoadSettings.{LoadSettings}
use Rattle.mig_load_types.specs.declared.settings.RoundEnd.{RoundEnd}
use Rattle.mig_load_types.specs.declared.fault.Fault.{Fault}
use Rattle.mig_answer.specs.declared.verdict.Verdict.TheVariants.{Running, Done}
use Rattle.mig_answer.specs.Texts.{Texts, no_texts}
use Rattle.mig_sources.specs.declared.source.Source.{Source}
use Rattle.mig_sources.specs.declared.source.Source.TheVariants as source
use Rattle.mig_sources.specs.Sources.{HasSource, count_of, feed_step, end_step, with_fed, with_end}
use Rattle.mig_sources.specs.Faults.{IsSourceValidUpTo, HasFault}
use Rattle.mig_in_place.specs.Sources.{counts_of}
use Rattle.mig_in_place.specs.Missing.{HasMissing}
use Rattle.mig_in_place.specs.Session.{InPlaceLoad, StandsFor, LacksMemory, StepsOn, StillLacks, RunsOut, Tells, TakesBytes, HasAllRounds, MoreMayCome}
use Rattle.mig_c_calls.specs.Status.{IsOneOf, done, running, no_memory, bad_channels, bad_source, is_over, too_long, bad_length, bad_frame, bad_round_end}
use Rattle.mig_c_loads.specs.Frames.{frame_of, round_end_of, with_round_end}
use Rattle.mig_c_loads.specs.declared.fault.FoundFault.{FoundFault}
use Rattle.mig_c_loads.specs.Found.{if_told, seen_of_source, no_fault}
use Rattle.mig_c_loads.specs.InPlace.{settings_into}

-- ---- the calls

-- With any blocks that fit this table it took nothing yet: of a main stream that is read in this
-- frame, may have so many page records in a round and has this end of rounds, and of so many
-- channels under this UUID.
pub record BeginsInto (table : RamTable) (uuid : List ℕ) (channels : ℕ) (frame : Frame) (waiting : Option ℕ) (ends : RoundEnd) (s : InPlaceLoad) : Type 0 where
  pub same_table : s.table ≡ table
  pub as_many : length (counts_of s.sources).channels ≡ channels
  pub stands : (blocks : List (List ℕ)) → FitTable table blocks
      → StandsFor (with_round_end (settings_into table frame waiting) ends) uuid (lent_image table blocks) (no_texts channels) (lent_image table blocks) s

abbrev pub Opens : Option RamTable → List ℕ → ℕ → Option Frame → Option ℕ → Option RoundEnd → Option InPlaceLoad → Type 0
Opens None uuid channels frame waiting ends made = ⊤
Opens (Some table) uuid channels None waiting ends made = ⊥
Opens (Some table) uuid channels (Some frame) waiting None made = ⊥
Opens (Some table) uuid channels (Some frame) waiting (Some ends) None = ⊥
Opens (Some table) uuid channels (Some frame) waiting (Some ends) (Some s) = BeginsInto table uuid channels frame waiting ends s

-- What `new` does, with a table: the first thing that is wrong with what it is given is returned.
pub record OpensInto (table : Option RamTable) (uuid : List ℕ) (channels frame : ℕ) (waiting : Option ℕ) (ends status : ℕ) (made : Option InPlaceLoad) : Type 0 where
  pub is_named : IsOneOf (done ∷ no_memory ∷ bad_channels ∷ bad_length ∷ bad_frame ∷ bad_round_end ∷ []) status
  pub opens : status ≡ done → Opens table uuid channels (frame_of frame) waiting (round_end_of ends) made
  pub no_number : status ≡ bad_channels → (channels ≡ 0) ⊎ (255 < channels)
  pub numbered : status ≢ bad_channels → (1 ≤ channels) × (channels ≤ 255)
  pub short : status ≡ bad_length → length uuid ≢ 16
  pub is_uuid : status ≢ bad_channels → status ≢ bad_length → length uuid ≡ 16
  pub no_frame : status ≡ bad_frame → frame_of frame ≡ None
  pub has_frame : status ≢ bad_channels → status ≢ bad_length → status ≢ bad_frame → frame_of frame ≢ None
  pub no_round_end : status ≡ bad_round_end → round_end_of ends ≡ None
  pub has_round_end : status ≢ bad_channels → status ≢ bad_length → status ≢ bad_frame → status ≢ bad_round_end → round_end_of ends ≢ None

-- Why a piece of `len` bytes of a source isn't taken into these blocks: the first reason that
-- applies.
pub record RefusesPiece (from : Source) (len : ℕ) (blocks : List (List ℕ)) (status : ℕ) (s : InPlaceLoad) : Type 0 where
  pub is_named : IsOneOf (done ∷ bad_source ∷ is_over ∷ too_long ∷ bad_length ∷ []) status
  pub unfit : status ≡ bad_length → FitTable s.table blocks → ⊥
  pub fits : status ≡ done → FitTable s.table blocks
  pub foreign : status ≡ bad_source → HasSource (counts_of s.sources) from → ⊥
  pub has_source : status ≢ bad_source → HasSource (counts_of s.sources) from
  pub over : status ≡ is_over → IsTrue (count_of (counts_of s.sources) from).ended
  pub goes_on : status ≢ bad_source → status ≢ is_over → IsFalse (count_of (counts_of s.sources) from).ended
  pub long : status ≡ too_long → 2 ^ 64 ≤ (count_of (counts_of s.sources) from).fed + len
  pub short : status ≢ bad_source → status ≢ is_over → status ≢ too_long → (count_of (counts_of s.sources) from).fed + len < 2 ^ 64

-- The state after a piece was fed into a memory: `taken` bytes of it were taken, of the main stream
-- none or all; or an allocation was refused.
pub record FeedsMemory (from : Source) (piece : List ℕ) (before after : Image) (taken status : ℕ) (old new : InPlaceLoad) : Type 0 where
  pub is_named : IsOneOf (done ∷ no_memory ∷ []) status
  pub within : status ≡ done → taken ≤ length piece
  pub whole : status ≡ done → from ≡ source.Main → (taken ≡ 0) ⊎ (taken ≡ length piece)
  pub steps : status ≡ done → StepsOn (feed_step from (take taken piece)) before old after new
  pub waits : status ≡ done → taken < length piece → (new.verdict ≢ Running)
      ⊎ Tells after new (λ given uuid first texts. TakesBytes (for_table first.table given) uuid new.rounds texts from → ⊥)
  pub counted : status ≡ done → counts_of new.sources ≡ with_fed (counts_of old.sources) from taken
  pub settled : old.verdict ≢ Running → (status ≡ done) × (taken ≡ 0) × (new ≡ old) × (after ≡ before)
  pub runs_out : status ≡ no_memory → RunsOut from piece before old after new
  pub none : status ≡ no_memory → taken ≡ 0
  pub same_table : new.table ≡ old.table
  pub rounds : old.rounds ≤ new.rounds

-- The effect of `feed` with blocks that hold these bytes. `taken` is the number of bytes of the
-- piece that it took. If an allocation was refused, nothing has changed, or the load has failed for
-- good.
pub record FeedsBlocks (from : Source) (piece : List ℕ) (before after : List (List ℕ)) (taken status : ℕ) (old new : InPlaceLoad) : Type 0 where
  pub is_named : IsOneOf (done ∷ no_memory ∷ bad_source ∷ is_over ∷ too_long ∷ bad_length ∷ []) status
  pub feeds : status ≡ done → FeedsMemory from piece (lent_image old.table before) (lent_image old.table after) taken done old new
  pub runs_out : status ≡ no_memory → ((new ≡ old) × (after ≡ before))
      ⊎ FeedsMemory from piece (lent_image old.table before) (lent_image old.table after) taken no_memory old new
  pub none : status ≢ done → taken ≡ 0
  pub same : status ≢ done → status ≢ no_memory → (new ≡ old) × (after ≡ before)
  pub same_table : new.table ≡ old.table
  pub still_fit : FitTable old.table before → FitTable old.table after
  pub foreign : status ≡ bad_source → HasSource (counts_of old.sources) from → ⊥
  pub has_source : status ≢ bad_source → HasSource (counts_of old.sources) from
  pub over : status ≡ is_over → IsTrue (count_of (counts_of old.sources) from).ended
  pub goes_on : status ≢ bad_source → status ≢ is_over → IsFalse (count_of (counts_of old.sources) from).ended
  pub long : status ≡ too_long → 2 ^ 64 ≤ (count_of (counts_of old.sources) from).fed + length piece
  pub short : status ≢ bad_source → status ≢ is_over → status ≢ too_long
      → (count_of (counts_of old.sources) from).fed + length piece < 2 ^ 64
  pub unfit : status ≡ bad_length → FitTable old.table before → ⊥
  pub fits : status ≡ done → FitTable old.table before

-- The effect of `end` on a source, whatever the memory holds. A verdict, once there is one, stays.
pub record EndsSource (from : Source) (status : ℕ) (old new : InPlaceLoad) : Type 0 where
  pub is_named : IsOneOf (done ∷ bad_source ∷ []) status
  pub steps : status ≡ done → (memory : Image) → StepsOn (end_step from) memory old memory new
  pub lacking : status ≡ done → (memory : Image) → StillLacks (end_step from) memory old memory new
  pub settled : status ≡ done → old.verdict ≢ Running → (new.verdict ≡ old.verdict) × (new.rounds ≡ old.rounds)
  pub counted : status ≡ done → counts_of new.sources ≡ with_end (counts_of old.sources) from
  pub same_table : new.table ≡ old.table
  pub same : status ≢ done → new ≡ old
  pub foreign : status ≡ bad_source → HasSource (counts_of old.sources) from → ⊥
  pub has_source : status ≢ bad_source → HasSource (counts_of old.sources) from

-- how many bytes of a source were taken, or 0 if there is no such source
pub record TellsTaken (from : Source) (taken : ℕ) (s : InPlaceLoad) : Type 0 where
  pub counted : HasSource (counts_of s.sources) from → taken ≡ (count_of (counts_of s.sources) from).fed
  pub foreign : (HasSource (counts_of s.sources) from → ⊥) → taken ≡ 0

-- whether bytes of a source are taken now: no, if there is no such source, or once the verdict is
-- there
pub record TellsTakes (from : Source) (told : Bool) (s : InPlaceLoad) : Type 0 where
  pub takes : HasSource (counts_of s.sources) from → s.verdict ≡ Running → (memory : Image)
      → Tells memory s (λ given uuid first texts. IsTrue told ↔ TakesBytes (for_table first.table given) uuid s.rounds texts from)
  pub settled : s.verdict ≢ Running → IsFalse told
  pub foreign : (HasSource (counts_of s.sources) from → ⊥) → IsFalse told

-- C sees how many of the bytes taken the main stream has, once it is closed; before that the number
-- stays.
pub record TellsClosedAt (status before after : ℕ) (s : InPlaceLoad) : Type 0 where
  pub is_named : IsOneOf (done ∷ running ∷ []) status
  pub closed : status ≡ done → (memory : Image) → Tells memory s (λ given uuid first texts. HasClosedAt (main_of (for_table first.table given)) texts.main.bytes (Some after))
  pub not_closed : status ≡ running → (memory : Image) → Tells memory s (λ given uuid first texts. HasClosedAt (main_of (for_table first.table given)) texts.main.bytes None)
  pub lacking : (memory : Image) (given : LoadSettings) (uuid : List ℕ) (first : Image) (texts : Texts) → LacksMemory given uuid first texts memory s
      → status ≡ running
  pub same : status ≢ done → after ≡ before

-- C sees how many of a source's bytes that were taken are complete items without a fault: a fault's
-- item begins after them. It isn't reported if there is no such source, nor after a refused
-- allocation.
pub record TellsValidUpTo (from : Source) (told : Bool) (before after : ℕ) (s : InPlaceLoad) : Type 0 where
  pub stands : HasSource (counts_of s.sources) from → (memory : Image)
      → Tells memory s (λ given uuid first texts. IsSourceValidUpTo (for_table first.table given) uuid texts from (if_told told after))
  pub lacking : (memory : Image) (given : LoadSettings) (uuid : List ℕ) (first : Image) (texts : Texts) → LacksMemory given uuid first texts memory s
      → IsFalse told
  pub foreign : (HasSource (counts_of s.sources) from → ⊥) → IsFalse told
  pub same : IsFalse told → after ≡ before

-- C sees the fault of a source's own bytes, or that they have none. None is known after a refused
-- allocation. If there is no such source what C has stays.
pub record TellsFault (from : Source) (status : ℕ) (before after : FoundFault) (s : InPlaceLoad) : Type 0 where
  pub stands : HasSource (counts_of s.sources) from → (memory : Image)
      → Tells memory s (λ given uuid first texts. (found : Option Fault) × HasFault (for_table first.table given) uuid texts from found × (after ≡ seen_of_source s.rounds from found))
  pub lacking : (memory : Image) (given : LoadSettings) (uuid : List ℕ) (first : Image) (texts : Texts) → LacksMemory given uuid first texts memory s
      → HasSource (counts_of s.sources) from → after ≡ no_fault
  pub number : HasSource (counts_of s.sources) from → status ≡ after.number
  pub foreign : (HasSource (counts_of s.sources) from → ⊥) → (status ≡ bad_source) × (after ≡ before)

-- whether all rounds are in
pub record TellsAllRounds (told : Bool) (s : InPlaceLoad) : Type 0 where
  pub all : IsTrue told → (memory : Image) → IsImage memory → Tells memory s (λ given uuid first texts. HasAllRounds (for_table first.table given) uuid first texts memory s.rounds)
  pub more : IsFalse told → s.verdict ≡ Running → (memory : Image) → Tells memory s (λ given uuid first texts. MoreMayCome (for_table first.table given) uuid texts s.rounds)
  pub done : s.verdict ≡ Done → IsTrue told
  pub failed : IsTrue told → (s.verdict ≡ Running) ⊎ (s.verdict ≡ Done)

-- how many pages of the blocks no record and no packet of the rounds counted named
abbrev pub TellsMissing : ℕ → InPlaceLoad → Type 0
TellsMissing missing s = (memory : Image) → Tells memory s (λ given uuid first texts. HasMissing (for_table first.table given) uuid first texts s.rounds missing)
