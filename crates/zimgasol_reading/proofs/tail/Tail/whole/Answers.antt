use Rattle.std.proofs.Common.{rules, ℕ, ◌≡◌, ◌≢◌, ◌+◌, inl, inr, Some, sym, subst, refl, true≢false, ◌∙◌, arith}
use Rattle.std.specs.Prelude.{IsSome}
use Rattle.std.proofs.lemmas.Bool.{cases_lt}
use Rattle.zimgasol_reading.specs.TailSeen.{HasDescriptionAt}
use Rattle.zimgasol_reading.proofs.TailDescribed.{described_after, described_first, found}
use Rattle.zimgasol_reading.proofs.tail.Tail.whole.Goals as goal

pub returns-then-self-ne0-clause-whole : goal.returns-then-self-ne0-clause-whole
returns-then-self-ne0-clause-whole c = λ text small seen. (
  λ some. absurd (true≢false (sym some)),
  λ ends.
      let tail = c.args.self.now in
      let first : tail.first ≡ Some 0 = c.begins_with_end.ensures.0 c.if-begins_with_end.true in
      let place = found text tail seen ends in
      absurd (c.if-self-ne0.true ((place.is_first first).0)),
)

pub returns-then-begins_with_end-clause-whole : goal.returns-then-begins_with_end-clause-whole
returns-then-begins_with_end-clause-whole c = λ text small seen.
    let tail = c.args.self.now in
    let first : tail.first ≡ Some 0 = c.begins_with_end.ensures.0 c.if-begins_with_end.true in
    let none : tail.window.start + 0 ≡ 0 = omega (arith, c.if-self-ne0.false) in
    let is = c.in_ok-found.ensures.whole text (omega arith) small seen in (
      λ some. described_first text (subst (λ (k : ℕ). HasDescriptionAt k text) none (is.0 some)),
      λ ends.
          let place = found text tail seen ends in
          is.1 (subst (λ (k : ℕ). HasDescriptionAt (tail.window.start + k) text) ((place.is_first first).1) place.has_description),
    )

pub returns-in-Some-clause-whole : goal.returns-in-Some-clause-whole
returns-in-Some-clause-whole c = λ text small seen.
    let tail = c.args.self.now in
    let other : tail.first ≢ Some 0 = λ is. true≢false (sym (c.begins_with_end.ensures.1 is) ∙ c.if-begins_with_end.false) in
    let is = c.in_ok-ending.ensures.whole text (search (rules, c.loop-at-test.true)) small seen in
    (λ _. described_after text tail (tail.window.start + c.loop-at.at) seen other (is.0 (subst (λ o. IsSome o) (sym c.in-Some.is) refl)), λ _. refl)

pub loop-at-preserved : goal.loop-at-preserved
loop-at-preserved c = λ k text less small seen has.
    let tail = c.args.self.now in
    elim (cases_lt k c.loop-at.at) [
      | inl before ↦ c.loop-at.invariant k text before small seen has
      | inr past ↦
          let same : k ≡ c.loop-at.at = omega (arith, less, past) in
          let is = c.in_ok-ending.ensures.whole text (search (rules, c.loop-at-test.true)) small seen in
          let some = is.1 (subst (λ (i : ℕ). HasDescriptionAt (tail.window.start + i) text) same has) in
          true≢false (sym (subst (λ o. IsSome o) c.in_default.is some))
    ]

pub returns-clause-whole : goal.returns-clause-whole
returns-clause-whole c = λ text small seen. (
  λ some. absurd (true≢false (sym some)),
  λ ends.
      let place = found text c.args.self.now seen ends in
      absurd (c.loop-at.invariant place.at text (omega (arith, place.is_near, c.loop-at-test.false)) small seen place.has_description),
)
