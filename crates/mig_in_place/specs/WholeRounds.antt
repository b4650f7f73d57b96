-- A load whose memory has whole rounds alone: a round's pages are kept apart from it until the
-- round was judged.
use Rattle.std.specs.Prelude.{ℕ, ◌≡◌, ◌<◌, List, IsTrue}
use Rattle.mig_mem.specs.Image.{Image}
use Rattle.mig_load_types.specs.Settings.{for_table}
use Rattle.mig_load_types.specs.declared.settings.LoadSettings.{LoadSettings}
use Rattle.mig_answer.specs.Texts.{Texts, Readings, AreReadings}
use Rattle.mig_answer.specs.MultiLoad.{passes}
use Rattle.mig_in_place.specs.Answer.{rounds_onto}
use Rattle.mig_in_place.specs.Session.{InPlaceLoad, StandsFor}

-- A memory has the first k rounds of the streams on top of what it held, each of which was lawful,
-- and nothing else.
pub record HasRoundsAlone (given : LoadSettings) (uuid : List ℕ) (first : Image) (texts : Texts) (k : ℕ) (memory : Image) : Type 0 where
  pub readings : Readings
  pub are_readings : AreReadings given uuid texts readings
  pub have_passed : (j : ℕ) → j < k → IsTrue (passes j readings)
  pub has_rounds : memory ≡ rounds_onto first k readings

-- A call takes this step: if a memory had the rounds counted before it, and nothing else, the one
-- after it has those counted then. `before` and `after` are what the load writes into.
abbrev pub KeepsRounds : (Texts → Texts) → Image → Image → InPlaceLoad → Image → InPlaceLoad → Type 0
KeepsRounds step before kept old now new = (given : LoadSettings) (uuid : List ℕ) (first : Image) (texts : Texts) → StandsFor given uuid first texts before old
    → HasRoundsAlone (for_table first.table given) uuid first texts old.rounds kept
    → HasRoundsAlone (for_table first.table given) uuid first (step texts) new.rounds now
