-- A load of one stream into blocks of C, as a load of a main stream without channels: its only
-- source is the main stream. What each call does with a source, by its status.
use Rattle.std.specs.Prelude.{◌≡◌, ◌≢◌, ◌↔◌, ℕ, Bool, List, [], ◌∷◌, length, Option, None, IsSome, IsTrue, IsFalse, ◌==◌, if◌then◌else◌}
use Rattle.mig_mem.specs.Image.{Image}
use Rattle.mig_stream.specs.declared.wanted.Wanted.{Wanted}
use Rattle.mig_load_types.specs.declared.settings.LoadSettings.{LoadSettings}
use Rattle.mig_single_load.specs.LoadInPlace.{LoadInPlace, LoadsInPlace, LacksMemory}
use Rattle.mig_single_load.specs.ComesNext.{ComesNext}
use Rattle.mig_sources.specs.declared.source.Source.{Source}
use Rattle.mig_sources.specs.declared.source.Source.TheVariants as source
use Rattle.mig_c_calls.specs.Status.{IsOneOf, done, running, bad_source}
use Rattle.mig_c_loads.specs.declared.fault.FoundFault.{FoundFault}
use Rattle.mig_c_loads.specs.Found.{no_fault}
use Rattle.mig_c_loads.specs.InPlace.{FeedsInPlace, EndsInPlace, TellsVerdict, TellsClosedAt, TellsValidUpTo}

-- The effect of `feed` on a source: that on the stream, all of whose bytes are taken.
pub record FeedsOne (from : Source) (piece : List ℕ) (before after : List (List ℕ)) (taken status : ℕ) (old new : LoadInPlace) : Type 0 where
  pub foreign : status ≡ bad_source → (from ≢ source.Main) × (new ≡ old) × (after ≡ before)
  pub is_main : status ≢ bad_source → from ≡ source.Main
  pub feeds : status ≢ bad_source → FeedsInPlace piece before after status old new
  pub all : status ≡ done → taken ≡ length piece
  pub none : status ≢ done → taken ≡ 0

-- The effect of `end` on a source.
pub record EndsOne (from : Source) (status : ℕ) (old new : LoadInPlace) : Type 0 where
  pub is_named : IsOneOf (done ∷ bad_source ∷ []) status
  pub foreign : status ≡ bad_source → (from ≢ source.Main) × (new ≡ old)
  pub ends : status ≡ done → (from ≡ source.Main) × EndsInPlace old new

-- how many bytes of a source were fed: all of the stream's, or 0 if it isn't the main stream
pub record CountsOne (from : Source) (fed all : ℕ) : Type 0 where
  pub counted : from ≡ source.Main → fed ≡ all
  pub foreign : from ≢ source.Main → fed ≡ 0

-- Whether bytes of a source are read now: those of the main stream, if it wasn't ended and
-- something comes next in it. Nothing does once it is over or has a fault, nor after a refused
-- allocation.
pub record TakesOne (from : Source) (told : Bool) (s : LoadInPlace) : Type 0 where
  pub next : Option Wanted
  pub comes_next : (memory : Image) (given : LoadSettings) (first : Image) (text : List ℕ) (ended : Bool) → LoadsInPlace memory given first s text ended
      → ComesNext given first text next
  pub has_failed : (memory : Image) (given : LoadSettings) (first : Image) (text : List ℕ) (ended : Bool) → LacksMemory memory given first s text ended
      → next ≡ None
  pub says : IsTrue told ↔ (from ≡ source.Main) × IsFalse s.ended × IsSome next

-- how many bytes of a source are complete items without a fault
pub record ValidOne (from : Source) (told : Bool) (before after : ℕ) (s : LoadInPlace) : Type 0 where
  pub stands : from ≡ source.Main → TellsValidUpTo told before after s
  pub foreign : from ≢ source.Main → IsFalse told × (after ≡ before)

-- the fault of a stream, if it has one so far
abbrev pub fault_in : FoundFault → FoundFault
fault_in found = if found.number == running then no_fault else found

-- The fault of a source. If it isn't the main stream what C has stays.
pub record FaultOne (from : Source) (status : ℕ) (before after : FoundFault) (s : LoadInPlace) : Type 0 where
  pub verdict : FoundFault
  pub tells : TellsVerdict verdict s
  pub stands : from ≡ source.Main → (after ≡ fault_in verdict) × (status ≡ after.number)
  pub foreign : from ≢ source.Main → (status ≡ bad_source) × (after ≡ before)

-- whether all rounds are in: the stream is closed
pub record AllInOne (told : Bool) (s : LoadInPlace) : Type 0 where
  pub status : ℕ
  pub at : ℕ
  pub closed : TellsClosedAt status 0 at s
  pub says : IsTrue told ↔ status ≡ done
