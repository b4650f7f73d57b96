use Rattle.std.proofs.Common.{◌≡◌, ℕ, List, [], length, Bor, ap, subst, arith, inl, inr}
use Rattle.std.proofs.lemmas.Bool.{cases_lt}
use Rattle.mig_mem.specs.Lent.{lent_bytes}
use Rattle.mig_c_calls.specs.Copied.{content_of}
use Rattle.mig_c_calls.proofs.Copies.{lent_content}
use Rattle.mig_c_calls.proofs.worker.are_contents.Goals as goal

abbrev none : Bor (List ℕ)
none = record { ref_ptr = (0, 0); now = [] }

pub returns-then-contents-i : goal.returns-then-contents-i
returns-then-contents-i c = (
  λ no. absurd cc,
  λ are.
      let i : ℕ = c.loop-i.i in
      let whole : length (content_of (lent_bytes c.args.contents.now) i) ≡ c.args.size = are.are_whole i (omega (arith, c.loop-i-test.true)) in
      let here = lent_content c.args.contents.now i none (omega (arith, c.loop-i-test.true, c.if-contents-count.false)) in
      absurd (omega (arith, whole, ap (λ (l : List ℕ). length l) here, c.if-contents-i.true)),
)

pub loop-i-preserved : goal.loop-i-preserved
loop-i-preserved c k lt = elim (cases_lt k c.loop-i.i) [
  | inl lower ↦ c.loop-i.invariant k lower
  | inr upper ↦
      let i : ℕ = c.loop-i.i in
      let here = lent_content c.args.contents.now i none (omega (arith, c.loop-i-test.true, c.if-contents-count.false)) in
      let whole : length (content_of (lent_bytes c.args.contents.now) i) ≡ c.args.size =
      omega (arith, ap (λ (l : List ℕ). length l) here, c.if-contents-i.false) in
      subst (λ (n : ℕ). length (content_of (lent_bytes c.args.contents.now) n) ≡ c.args.size) (omega (arith, lt, upper)) whole
]
