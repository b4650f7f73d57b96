use Rattle.std.proofs.Common.{◌≡◌, ◌∙◌, ℕ, List, sym, ap, length, take, drop, arith}
use Rattle.std.proofs.lemmas.List.{nil_from_length}
use Rattle.mig_c_calls.specs.Sending.{waiting}
use Rattle.mig_c_calls.proofs.sender.peek_sender.Goals as goal

pub returns : goal.returns
returns c =
    let count : ℕ = c.copy_front.result in
    let mid = c.refill.new.sender in
    let here : c.undrained.result.now ≡ waiting mid =
    c.undrained.ensures ∙ ap (λ (l : List ℕ). drop mid.given l) c.deref.ensures.value in (
      c.refill.ensures,
      record {
        fits = c.copy_front.ensures.fits;
        within = omega (arith, c.copy_front.ensures.within, ap (λ (l : List ℕ). length l) here);
        has_front = c.copy_front.ensures.front ∙ ap (λ (l : List ℕ). take count l) here;
        fills = λ less. c.copy_front.ensures.fills less ∙ ap (λ (l : List ℕ). length l) here;
        none = λ zero room. nil_from_length (waiting mid) (ap (λ (l : List ℕ). length l) (sym here) ∙ c.copy_front.ensures.none zero room);
      },
    )
