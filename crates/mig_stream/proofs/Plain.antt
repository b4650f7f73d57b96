-- Which closed streams may be background snapshots: machines' single streams alone.
use Rattle.std.proofs.Common.{◌≡◌, ℕ, Bool, true, false, List, refl, sym, ap, ◌∙◌}
use Rattle.std.specs.Prelude.{◌&&◌}
use Rattle.mig_stream.specs.declared.item.Frame.{Frame}
use Rattle.mig_stream.specs.declared.item.Frame.TheVariants.{Ram, Machine}
use Rattle.mig_stream.specs.declared.item.Mode.{Mode}
use Rattle.mig_stream.specs.declared.item.Mode.TheVariants.{Single, Main, MainBySection, MainAsShown}
use Rattle.mig_stream.specs.declared.item.Due.TheVariants.{Nothing}
use Rattle.mig_stream.specs.declared.item.StreamState.TheVariants.{Closed}
use Rattle.mig_stream.specs.Progress.{StreamProgress, start}
use Rattle.mig_stream.specs.Items.{is_single, is_machine}
use Rattle.mig_stream.specs.Reading.{Settings, Front, Ends}
use Rattle.mig_stream.proofs.Stopping.{closed_due}
use Rattle.mig_stream.proofs.Steps.{IsLater-front}

abbrev from : Settings → StreamProgress
from given = start given.frame given.mode given.page_size given.limit given.waiting

-- a stream of another kind is closed where no item is due
pub plain_due : (given : Settings) (front : List ℕ) (to : StreamProgress) (rest : List ℕ) → (is_machine given.frame && is_single given.mode) ≡ false
    → Front (from given) front to → Ends to rest Closed → to.due ≡ Nothing
plain_due given front to rest plain leads ends =
    let later = IsLater-front (from given) to front leads in
    let same : (is_machine to.frame && is_single to.mode) ≡ (is_machine given.frame && is_single given.mode) =
    ap (λ (f : Frame). is_machine f && is_single to.mode) later.same_frame ∙ ap (λ (b : Bool). is_machine given.frame && b) later.same_single in
    closed_due to rest (same ∙ plain) ends

pub main_due : (given : Settings) (front : List ℕ) (to : StreamProgress) (rest : List ℕ) → is_single given.mode ≡ false
    → Front (from given) front to → Ends to rest Closed → to.due ≡ Nothing
main_due given front to rest main leads ends = plain_due given front to rest (neither (is_machine given.frame) (is_single given.mode) main) leads ends
  where
    neither : (a b : Bool) → b ≡ false → (a && b) ≡ false
    neither true b e = e
    neither false b e = refl

-- what a stream is read as stays
pub single_is : (mode : Mode) → is_single mode ≡ true → mode ≡ Single
single_is Single e = refl
single_is Main e = absurd cc
single_is MainBySection e = absurd cc
single_is MainAsShown e = absurd cc

pub machine_is : (frame : Frame) → is_machine frame ≡ true → frame ≡ Machine
machine_is Ram e = absurd cc
machine_is Machine e = refl

pub single_from : (given : Settings) (front : List ℕ) (to : StreamProgress) → is_single to.mode ≡ true → Front (from given) front to → given.mode ≡ Single
single_from given front to single leads = single_is given.mode (sym (IsLater-front (from given) to front leads).same_single ∙ single)

pub machine_from : (given : Settings) (front : List ℕ) (to : StreamProgress) → is_machine to.frame ≡ true → Front (from given) front to → given.frame ≡ Machine
machine_from given front to machine leads = machine_is given.frame (ap is_machine (sym (IsLater-front (from given) to front leads).same_frame) ∙ machine)
