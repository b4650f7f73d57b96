-- The places that the rounds judged so far named, and the pages of the memory that none named.
use Rattle.std.specs.Prelude.{ℕ, ◌≡◌, List}
use Rattle.mig_mem.specs.PlaceSet.{PlaceSet}
use Rattle.mig_mem.specs.Image.{Image}
use Rattle.mig_assemble.specs.NamedPlaces.{HasPlaces}
use Rattle.mig_single_load.specs.InPlace.{IsOfOwnTable}
use Rattle.mig_load_types.specs.declared.settings.LoadSettings.{LoadSettings}
use Rattle.mig_answer.specs.Texts.{Texts, Readings, AreReadings}
use Rattle.mig_answer.specs.Rounds.{places_in_rounds, missing_after}

-- The set has the places that the first k rounds of the streams named, and no other, unless the
-- streams are of another table than the memory.
pub record HasNamed (given : LoadSettings) (uuid : List ℕ) (first : Image) (texts : Texts) (k : ℕ) (named : PlaceSet) : Type 0 where
  pub readings : Readings
  pub are_readings : AreReadings given uuid texts readings
  pub has_places : IsOfOwnTable first readings.main → HasPlaces first.table (places_in_rounds first.table k readings) named

-- So many pages of the memory have no record and no packet in the first k rounds of the streams,
-- unless these are of another table.
pub record HasMissing (given : LoadSettings) (uuid : List ℕ) (first : Image) (texts : Texts) (k missing : ℕ) : Type 0 where
  pub readings : Readings
  pub are_readings : AreReadings given uuid texts readings
  pub is_count : IsOfOwnTable first readings.main → missing ≡ missing_after first.table k readings
