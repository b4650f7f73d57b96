use Rattle.std.proofs.Common.{ℕ, ◌≢◌, ◌↔◌, Option, Some, inl, inr, sym, subst, true≢false}
use Rattle.std.specs.Prelude.{IsSome, IsTrue}
use Rattle.zimgasol_reading.proofs.tail.Tail.ending.Goals as goal

pub returns-clause-whole : goal.returns-clause-whole
returns-clause-whole c = λ text small seen.
    let is = c.in_ok-ending-2.ensures.whole text small seen in (
      λ none. inl (is.0 none),
      λ whole. elim whole [
        | inl one ↦ is.1 one
        | inr ends ↦
            let some = (c.in_ok-ending.ensures.whole text small seen).1 ends in
            absurd (true≢false (sym (subst (λ o. IsSome o) c.in_default.is some)))
      ],
    )

pub returns-clause-devices : goal.returns-clause-devices
returns-clause-devices c = λ text seen.
    subst (λ (o : Option ℕ). IsTrue c.in_ok-ending-2.ending.has_devices ↔ (o ≢ Some 0)) seen.has_first c.in_ok-ending-2.ensures.of_tail.has_devices
