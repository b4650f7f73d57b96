use Rattle.std.proofs.Common.{◌≡◌, ◌∙◌, ℕ, List, refl, sym, ap, length, take, drop}
use Rattle.mig_c_calls.proofs.SenderSteps.{hands_front}
use Rattle.mig_c_calls.proofs.sender.hand_out.Goals as goal

pub returns : goal.returns
returns c =
    let count : ℕ = c.copy_front-count.result in
    let here : c.undrained.result.now ≡ drop c.args.sender.now.given c.args.sender.now.drained.items =
    c.undrained.ensures ∙ ap (λ (l : List ℕ). drop c.args.sender.now.given l) c.deref.ensures.value in
    hands_front count c.copy_front-count.new.out c.args.sender.now _ c.copy_front-count.ensures.fits
    (c.copy_front-count.ensures.front ∙ ap (λ (l : List ℕ). take count l) here) refl refl refl
    (λ zero room. ap (λ (l : List ℕ). length l) (sym here) ∙ c.copy_front-count.ensures.none zero room)
    (λ less. c.copy_front-count.ensures.fills less ∙ ap (λ (l : List ℕ). length l) here)
