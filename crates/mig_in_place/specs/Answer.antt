-- The answer of a load of several channels into existing memory, which writes each page as soon as
-- it has arrived.
use Rattle.std.specs.Prelude.{ℕ, ◌≡◌, ◌<◌, List, map, IsTrue, None}
use Rattle.std.specs.List.{range_with_len}
use Rattle.mig_mem.specs.declared.place.Place.{Place}
use Rattle.mig_mem.specs.Place.{IsPlace}
use Rattle.mig_mem.specs.Image.{Image, content_at}
use Rattle.mig_mem.specs.Round.{with_rounds}
use Rattle.mig_load_types.specs.Settings.{for_table}
use Rattle.mig_single_load.specs.InPlace.{IsOfOwnTable, IsOfOtherTable}
use Rattle.mig_load_types.specs.declared.settings.LoadSettings.{LoadSettings}
use Rattle.mig_load_types.specs.declared.fault.Origin.TheVariants as origin
use Rattle.mig_load_types.specs.declared.fault.Fault.TheVariants as fault
use Rattle.mig_answer.specs.declared.verdict.Verdict.{Verdict}
use Rattle.mig_answer.specs.Texts.{Texts, Readings, AreReadings}
use Rattle.mig_answer.specs.Rounds.{pages_at}
use Rattle.mig_answer.specs.MultiLoad.{IsFirstStop, passes, verdict_at, failed}
use Rattle.mig_in_place.specs.Named.{IsNamed}

-- ---- the memory

-- the memory `first` after the first k rounds
abbrev pub rounds_onto : Image → ℕ → Readings → Image
rounds_onto first k readings = with_rounds first (map (λ i. pages_at first.table i readings) (range_with_len 0 k))

-- A memory has the contents of `kept`, at each place but the open ones, which may have any.
pub record HoldsElsewhere (kept : Image) (IsOpen : Place → Type 0) (memory : Image) : Type 0 where
  pub same_table : memory.table ≡ kept.table
  pub elsewhere : (p : Place) → IsPlace kept.table p → (IsOpen p → ⊥) → content_at memory p ≡ content_at kept p

-- The memory has k rounds on top of its earlier content. The places that the next round names so
-- far may have any contents.
abbrev pub HasRoundsOnto : LoadSettings → List ℕ → Image → Texts → Readings → Image → ℕ → Type 0
HasRoundsOnto given uuid first texts readings memory k =
    HoldsElsewhere (rounds_onto first k readings) (IsNamed given uuid first.table k texts) memory

-- ---- the answer

-- The answer on streams of the memory's table, or whose table isn't known yet: rounds and verdict
-- are those of any load on several channels.
pub record IsOwnAnswer (given : LoadSettings) (uuid : List ℕ) (first : Image) (texts : Texts) (readings : Readings) (memory : Image) (rounds : ℕ) (verdict : Verdict) : Type 0 where
  pub has_rounds : IsFirstStop readings rounds
  pub has_verdict : verdict ≡ verdict_at rounds readings
  pub has_memory : HasRoundsOnto given uuid first texts readings memory rounds

-- The answer on streams of another table: nothing was written.
pub record IsOtherAnswer (first memory : Image) (rounds : ℕ) (verdict : Verdict) : Type 0 where
  pub has_none : rounds ≡ 0
  pub has_verdict : verdict ≡ failed 0 origin.Main fault.OtherTable
  pub has_memory : memory ≡ first

-- The answer on some streams, of a load with these settings and under this UUID into the memory
-- `first`, whose page size counts. Before the stream's table is known nothing was written.
pub record IsInPlaceAnswer (given : LoadSettings) (uuid : List ℕ) (first : Image) (texts : Texts) (memory : Image) (rounds : ℕ) (verdict : Verdict) : Type 0 where
  pub readings : Readings
  pub are_readings : AreReadings (for_table first.table given) uuid texts readings
  pub own : IsOfOwnTable first readings.main → IsOwnAnswer (for_table first.table given) uuid first texts readings memory rounds verdict
  pub unknown : readings.main.table ≡ None → memory ≡ first
  pub other : IsOfOtherTable first readings.main → IsOtherAnswer first memory rounds verdict

-- The answer after a refused allocation: each round that is counted passes, and the memory has
-- these rounds.
pub record IsInPlaceWithoutMemory (given : LoadSettings) (uuid : List ℕ) (first : Image) (texts : Texts) (memory : Image) (rounds : ℕ) (verdict : Verdict) : Type 0 where
  pub readings : Readings
  pub are_readings : AreReadings (for_table first.table given) uuid texts readings
  pub have_passed : (j : ℕ) → j < rounds → IsTrue (passes j readings)
  pub has_verdict : verdict ≡ failed rounds origin.Round fault.NoMemory
  pub own : IsOfOwnTable first readings.main → HasRoundsOnto (for_table first.table given) uuid first texts readings memory rounds
  pub unknown : readings.main.table ≡ None → memory ≡ first
  pub other : IsOfOtherTable first readings.main → (rounds ≡ 0) × (memory ≡ first)
