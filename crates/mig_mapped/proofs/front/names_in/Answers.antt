use Rattle.std.proofs.Common.{◌≡◌, ◌+◌, ◌++◌, List, ℕ, length, drop, sym, subst, ◌∙◌}
use Rattle.std.specs.Prelude.{IfNone}
use Rattle.std.proofs.lemmas.Slice.Eq.{bytes_eq-Decides}
use Rattle.mig_stream.specs.Fields.{counted}
use Rattle.mig_stream.specs.Format.{mapped_ram}
use Rattle.mig_mapped.specs.FrontParts.{HasNoNames}
use Rattle.mig_mapped.proofs.FrontFields.{to_end}
use Rattle.mig_mapped.proofs.FrontSteps.{NamesSoFar, no_names, low_names, other_taken, mapped_taken, ends_inside, named_twice}
use Rattle.mig_mapped.proofs.front.names_in.Goals as goal
use Rattle.mig_mapped.proofs.front.names_in.Goals.{then-eq+else-is_some, else-eq}

-- the name as it stands in all bytes
name_here : (bytes name : List ℕ) (len : ℕ) (rest : List ℕ) → rest ≡ drop len bytes → rest ≡ counted name ++ drop (1 + length name) rest
    → drop len bytes ≡ counted name ++ drop (1 + length name) (drop len bytes)
name_here bytes name len rest is e = subst (λ (l : List ℕ). l ≡ counted name ++ drop (1 + length name) l) is e

pub loop-init : goal.loop-init
loop-init c = no_names c.args.bytes.now

pub slice_bounds-name_in-count : goal.slice_bounds-name_in-count
slice_bounds-name_in-count c = low_names c.args.bytes.now c.loop.counter c.loop.len c.loop.mapped c.loop.invariant

pub returns-in_err-name-clause-none : goal.returns-in_err-name-clause-none
returns-in_err-name-clause-none c =
    let none : HasNoNames c.args.count c.args.bytes.now =
    ends_inside c.args.bytes.now c.args.count c.loop.counter c.loop.len c.loop.mapped c.loop-test.true c.loop.invariant
    (λ name rest e. c.in_err-name.ensures.none name rest (to_end c.args.bytes.now c.loop.len ∙ e)) in
    subst (λ r. IfNone r (HasNoNames c.args.count c.args.bytes.now)) (sym c.from_residual.ensures) none

pub returns-then-is_some-clause-none : goal.returns-then-is_some-clause-none
unfolding mapped_ram
returns-then-is_some-clause-none c =
    let name = c.in_ok-name.name.now in
    named_twice c.args.bytes.now c.args.count c.loop.counter c.loop.len c.loop.mapped name (sym c.is_some.ensures ∙ c.if-is_some.true) c.loop-test.true
    c.loop.invariant (name_here c.args.bytes.now name c.loop.len _ (to_end c.args.bytes.now c.loop.len) c.in_ok-name.ensures.found)
    ((bytes_eq-Decides name mapped_ram).0 (sym c.eq.ensures ∙ c.if-eq.true))

pub loop-preserved : goal.loop-preserved
unfolding mapped_ram
loop-preserved c =
    let name = c.in_ok-name.name.now in
    let here = name_here c.args.bytes.now name c.loop.len _ (to_end c.args.bytes.now c.loop.len) c.in_ok-name.ensures.found in
    elim c.if-eq.branch [
      | then-eq+else-is_some w ↦ subst (NamesSoFar c.args.bytes.now (c.loop.counter + 1) (c.loop.len + (1 + length name))) (sym w.mapped-is)
          (mapped_taken c.args.bytes.now c.loop.counter c.loop.len c.loop.mapped name (sym w.is_some.ensures ∙ w.if-is_some.false) c.loop.invariant here
          ((bytes_eq-Decides name mapped_ram).0 (sym c.eq.ensures ∙ w.if-eq.true)))
      | else-eq w ↦ subst (NamesSoFar c.args.bytes.now (c.loop.counter + 1) (c.loop.len + (1 + length name))) (sym w.mapped-is)
          (other_taken c.args.bytes.now c.loop.counter c.loop.len c.loop.mapped name c.loop.invariant here
          (record { has_length = c.in_ok-name.ensures.short; isnt_mapped = sym c.eq.ensures ∙ w.if-eq.false }))
    ]
