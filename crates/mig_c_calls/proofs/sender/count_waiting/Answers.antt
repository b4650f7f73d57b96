use Rattle.std.proofs.Common.{◌≡◌, ◌∙◌, List, ℕ, ap, length, drop}
use Rattle.mig_c_calls.specs.Sending.{waiting}
use Rattle.mig_c_calls.proofs.sender.count_waiting.Goals as goal

pub returns : goal.returns
returns c =
    let mid = c.refill.new.sender in
    let here : c.undrained.result.now ≡ waiting mid =
    c.undrained.ensures ∙ ap (λ (l : List ℕ). drop mid.given l) c.deref.ensures.value in
    (c.refill.ensures, ap (λ (l : List ℕ). length l) here)
