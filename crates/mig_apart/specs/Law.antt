-- The laws of a load whose pages others read to their places.
use Rattle.std.specs.Prelude.{ℕ, ◌≡◌, List, []}
use Rattle.mig_mem.specs.Image.{Image, IsImage}
use Rattle.mig_load_types.specs.declared.settings.LoadSettings.{LoadSettings}
use Rattle.mig_answer.specs.Texts.{Texts}
use Rattle.mig_in_place.specs.Answer.{HoldsElsewhere}
use Rattle.mig_in_place.specs.Session.{StandsFor}
use Rattle.mig_apart.specs.Claims.{ApartLoad, IsClaimed, StandsFreely}

-- What a load represents survives any change of the memory at claimed places, also while a call
-- runs.
abbrev pub ClaimedPlacesAreFree : Type 0
ClaimedPlacesAreFree = (given : LoadSettings) (uuid : List ℕ) (first : Image) (texts : Texts) (memory changed : Image) (s : ApartLoad)
    → StandsFreely given uuid first texts memory s → HoldsElsewhere memory (IsClaimed s) changed → StandsFreely given uuid first texts changed s

-- Where nothing is claimed it represents the streams with this memory.
abbrev pub NothingClaimedIsStrict : Type 0
NothingClaimedIsStrict = (given : LoadSettings) (uuid : List ℕ) (first : Image) (texts : Texts) (memory : Image) (s : ApartLoad)
    → IsImage memory → s.claimed.marked ≡ [] → StandsFreely given uuid first texts memory s → StandsFor given uuid first texts memory s.load

-- A load that represents the streams with a memory does so whatever is claimed.
abbrev pub StrictIsFree : Type 0
StrictIsFree = (given : LoadSettings) (uuid : List ℕ) (first : Image) (texts : Texts) (memory : Image) (s : ApartLoad)
    → IsImage memory → memory.table ≡ s.load.table → StandsFor given uuid first texts memory s.load → StandsFreely given uuid first texts memory s
