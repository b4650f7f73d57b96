-- When a saved guest is complete.
use Rattle.std.specs.Prelude.{◌≡◌, ◌⊎◌, Bool, IsTrue, IfSome}
use Rattle.mig_mem.specs.declared.place.Place.{Place}
use Rattle.mig_mem.specs.Place.{IsPlace, has_place}
use Rattle.mig_stream.specs.declared.item.StreamState.TheVariants as state
use Rattle.mig_answer.specs.declared.verdict.Verdict.TheVariants as verdict
use Rattle.zimgasol_reading.specs.declared.blocks.Blocks.{Blocks}
use Rattle.zimgasol_reading.specs.declared.survey.Survey.{Survey}
use Rattle.zimgasol_reading.specs.declared.several.Several.{Several}

-- Each page of the table has a record or is a packet's.
abbrev pub IsWhole : Blocks → Type 0
IsWhole blocks = (p : Place) → IsPlace blocks.recorded.table p → IsTrue (has_place blocks.recorded.marked p)

-- Pages may lack if the stream is applied to existing memory, or if only a part is meant.
abbrev pub HasItsPages : Bool → Bool → Type 0 → Type 0
HasItsPages is_laid_over is_partial whole = IsTrue is_laid_over ⊎ (IsTrue is_partial ⊎ whole)

-- a single stream: closed, with its pages
abbrev pub IsComplete : Survey → Type 0
IsComplete survey = (survey.state ≡ state.Closed) × HasItsPages survey.is_laid_over survey.is_partial (IfSome survey.blocks IsWhole)

-- a main stream and its channels
abbrev pub AreComplete : {F : Type 0} → Several F → Type 0
AreComplete several = (several.verdict ≡ verdict.Done) × HasItsPages several.is_laid_over several.is_partial (IfSome several.blocks IsWhole)
