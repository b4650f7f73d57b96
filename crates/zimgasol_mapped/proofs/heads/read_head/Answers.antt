use Rattle.std.proofs.Common.{ℕ, ◌≡◌, List, sym, ap, subst, ◌∙◌}
use Rattle.mig_mapped.specs.Head.{MappedProgress, head_fault, after_head}
use Rattle.zimgasol_mapped.specs.Placed.{IsPartAt}
use Rattle.zimgasol_mapped.proofs.Indexed.{next_head}
use Rattle.zimgasol_mapped.proofs.heads.read_head.Goals as goal

pub returns-in-Ok-clause-next : goal.returns-in-Ok-clause-next
returns-in-Ok-clause-next g c = λ all known.
    let s : MappedProgress = c.args.index.now in
    let bytes : List ℕ = c.deref.result.now in
    let same : c.loop.index ≡ s = c.loop.invariant.index in
    let before : IsPartAt all c.place-place.result c.loop.bytes.items =
    subst (λ (k : ℕ). IsPartAt all k c.loop.bytes.items) (sym c.place-place.ensures) (c.loop.invariant.part all known) in
    let after : IsPartAt all c.place-place.result c.read_more.new.bytes.items = c.in_ok-goes_on.ensures.bytes all (c.loop.invariant.same ∙ known) before in
    let part : IsPartAt all s.place bytes =
    subst (λ (l : List ℕ). IsPartAt all s.place l) (sym c.deref.ensures.value)
    (subst (λ (k : ℕ). IsPartAt all k c.read_more.new.bytes.items) c.place-place.ensures after) in
    next_head all bytes s c.take.new.self part (ap (λ (x : MappedProgress). head_fault x bytes) (sym same) ∙ c.in-Ok.ensures.0)
    (c.in-Ok.ensures.1 ∙ ap (λ (x : MappedProgress). after_head x bytes) same)
