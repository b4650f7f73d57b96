use Rattle.std.proofs.Common.{rules, ℕ, ◌≡◌, ◌∙◌, List, length, Some, sym, ap}
use Rattle.std.specs.Prelude.{IsNone}
use Rattle.zimgasol_reading.proofs.TailLooked.{one_byte, total-seen}
use Rattle.zimgasol_reading.proofs.tail.Tail.not_described.Goals as goal

pub returns-in-Some-eq0-clause-whole : goal.returns-in-Some-eq0-clause-whole
returns-in-Some-eq0-clause-whole c = λ text small seen.
    let tail = c.args.self.now in
    let first : tail.first ≡ Some 0 = search rules in
    let all : c.total.result ≡ length text = total-seen text tail c.total.result small seen c.total.ensures in
    let none : IsNone c.ending_by-in-Some-eq0.result.fault = search rules in
    (λ _. one_byte text (sym seen.has_first ∙ first) (sym all ∙ c.if-total-eq1.true), λ _. none)

pub returns-in_ok-ending-in-Some-eq0-2-clause-whole : goal.returns-in_ok-ending-in-Some-eq0-2-clause-whole
returns-in_ok-ending-in-Some-eq0-2-clause-whole c = λ text small seen.
    let tail = c.args.self.now in
    let all : c.total.result ≡ length text = total-seen text tail c.total.result small seen c.total.ensures in
    (λ none. absurd (c.in_ok-ending-in-Some-eq0-2.ensures.fault none), λ one. absurd (c.if-total-eq1.false (all ∙ ap (λ (l : List ℕ). length l) one)))
