use Rattle.std.proofs.Common.{ℕ, ◌≡◌, ◌<◌, ◌∙◌, length, sym, ap, arith, inl, inr}
use Rattle.std.proofs.lemmas.Bool.{cases_lt}
use Rattle.mig_mem.specs.RamTable.{RamTable, block}
use Rattle.mig_mem.specs.Place.{place_at, IsPlace}
use Rattle.mig_mem.specs.Image.{differs}
use Rattle.mig_mem.proofs.PlaceOrder.{place_lt-true}
use Rattle.mig_mem.proofs.Walks.{first_place, no_place}
use Rattle.mig_mem.proofs.difference.first_difference.Goals as goal

pub loop-block-preserved : goal.loop-block-preserved
loop-block-preserved g c = λ q is lt. elim (cases_lt q.block c.loop-block.block) [
  | inl before ↦ c.loop-block.invariant q is before
  | inr at ↦
      let e : c.loop-block.block ≡ q.block = omega arith in
      ap (λ (b : ℕ). differs c.args.a.now c.args.b.now (place_at b q.page)) (sym e)
      ∙ c.in_default.ensures.none q.page (let inside : q.page < (block c.args.a.now.table.blocks q.block).pages = is.has_page in rw e inside)
]

pub returns-in-Some : goal.returns-in-Some
returns-in-Some g c =
    let some = c.in-Some.ensures.some in
    let is : IsPlace c.args.a.now.table (place_at c.loop-block.block c.in-Some.page) = record {
      has_block = omega (arith, c.len-block-end.ensures.value, ap (λ (t : RamTable). length t.blocks) c.table.ensures.value);
      has_page = some.has_page;
    } in
    sym (first_place c.args.a.now.table (differs c.args.a.now c.args.b.now) (place_at c.loop-block.block c.in-Some.page) is some.here
    (λ q is lt. elim (place_lt-true q (place_at c.loop-block.block c.in-Some.page) lt) [
      | inl before ↦ c.loop-block.invariant q is before
      | inr at ↦ let e : q.block ≡ c.loop-block.block = at.0 in
          ap (λ (b : ℕ). differs c.args.a.now c.args.b.now (place_at b q.page)) e ∙ some.before q.page at.1
    ]))

pub returns : goal.returns
returns g c =
    sym (no_place c.args.a.now.table (differs c.args.a.now c.args.b.now) (λ q is.
    let lt : q.block < length c.args.a.now.table.blocks = is.has_block in
    c.loop-block.invariant q is (omega (arith, c.len-block-end.ensures.value, ap (λ (t : RamTable). length t.blocks) c.table.ensures.value))))
