use Rattle.std.proofs.Common.{◌≡◌, ◌∙◌, List, ℕ, refl, ap, length, drop, arith}
use Rattle.mig_c_calls.specs.Sending.{waiting}
use Rattle.mig_c_calls.proofs.SenderSteps.{skips}
use Rattle.mig_c_calls.proofs.sender.skip_sender.Goals as goal

pub returns : goal.returns
returns c =
    let old = c.args.sender.now in
    let here : c.undrained.result.now ≡ waiting old =
    c.undrained.ensures ∙ ap (λ (l : List ℕ). drop old.given l) c.deref.ensures.value in
    skips c.args.len c.min-skipped.result old _ (grind (arith, c.min-skipped.ensures, ap (λ (l : List ℕ). length l) here)) refl refl refl
