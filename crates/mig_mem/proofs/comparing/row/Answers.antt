use Rattle.std.proofs.Common.{ℕ, ◌≡◌, ◌<◌, ◌+◌, ◌-◌, ◌*◌, ◌/◌, ◌∙◌, List, length, sym, ap, subst, arith}
use Rattle.std.specs.List.{range_with_len, AllZip}
use Rattle.rayon.specs.Numbers.{nat_range}
use Rattle.rayon.proofs.ToStd.{nat_range-All}
use Rattle.mig_mem.specs.RamTable.{RamTable, block}
use Rattle.mig_mem.specs.Marks.{IsDifferingWord, IsDifferingRow}
use Rattle.mig_mem.proofs.Differing.{differing_row}
use Rattle.mig_mem.proofs.comparing.row.Goals as goal

pub collect-requires-clause-ready : goal.collect-requires-clause-ready
collect-requires-clause-ready g c κs within =
    let table = c.args.a.now.table in
    let ends = c.into_par_iter.ensures in
    let pages : c.pages.result ≡ (block table.blocks c.args.block).pages = c.pages.ensures.value
    ∙ ap (λ (t : RamTable). (block t.blocks c.args.block).pages) c.table.ensures.value in
    let words : c.words_for-words.result ≡ (c.pages.result + 63) / 64 = c.words_for-words.ensures in
    let inside = nat_range-All (λ i. (table ≡ c.args.b.now.table)
    × ((c.args.block < length table.blocks) × (i * 64 < (block table.blocks c.args.block).pages))) 0 c.words_for-words.result
    (λ i low high. (c.requires.same, (c.requires.has_block, omega arith))) in
    rw (c.map.ensures.base, c.map.ensures.f, c.with_min_len.ensures.base, ends.0, ends.1) (λ k d lt. (inside k d lt, λ y p. tt))

pub returns : goal.returns
returns g c =
    let words = c.words_for-words.result in
    let ends = c.into_par_iter.ensures in
    let pages : c.pages.result ≡ (block c.args.a.now.table.blocks c.args.block).pages =
    c.pages.ensures.value ∙ ap (λ (t : RamTable). (block t.blocks c.args.block).pages) c.table.ensures.value in
    let enough : words ≡ (c.pages.result + 63) / 64 = c.words_for-words.ensures in
    let count : words ≡ ((block c.args.a.now.table.blocks c.args.block).pages + 63) / 64 = enough ∙ ap (λ (n : ℕ). (n + 63) / 64) pages in
    let whole : words - 0 ≡ words = omega arith in
    let a = c.args.a.now in
    let b = c.args.b.now in
    let all = c.in_ok-row.ensures in
    let chain = all.1 in
    let numbers : chain.0 ≡ range_with_len 0 words =
    chain.1 ∙ ap (λ m. nat_range m.base.start m.base.end) c.map.ensures.base ∙ ap (λ r. nat_range r.start r.end) c.with_min_len.ensures.base
    ∙ (λ i. nat_range (ends.0 i) (ends.1 i)) ∙ ap (range_with_len 0) whole in
    let each : AllZip (IsDifferingWord a b c.args.block) chain.0 all.0 =
    subst (λ f. AllZip (IsDifferingWord f.0.now f.1.now f.2.now) chain.0 all.0) c.map.ensures.f chain.2 in
    subst (λ (ws : List ℕ). IsDifferingRow a b c.args.block ws) (sym all.2)
    (differing_row a b c.args.block words all.0 count (subst (λ (is : List ℕ). AllZip (IsDifferingWord a b c.args.block) is all.0) numbers each))
