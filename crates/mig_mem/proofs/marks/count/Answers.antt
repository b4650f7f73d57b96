use Rattle.std.proofs.Common.{ℕ, ◌≡◌, ◌<◌, ◌≤◌, ◌*◌, ◌^◌, ◌∙◌, length, refl, ap, arith}
use Rattle.std.specs.Prelude.{slice_index}
use Rattle.std.proofs.lemmas.Nat.{ones-le}
use Rattle.std.specs.List.{range_with_len, count_by}
use Rattle.mig_mem.specs.Marks.{is_set}
use Rattle.mig_mem.proofs.Counts.{marks_more, marks_before_few}
use Rattle.mig_mem.proofs.marks.count.Goals as goal

pub overflow_add-count : goal.overflow_add-count
overflow_add-count c =
    let few : c.loop-i.count ≤ 64 * c.loop-i.i = omega (arith, c.loop-i.invariant, marks_before_few c.args.words.now (64 * c.loop-i.i)) in
    let word = slice_index c.args.words.now c.loop-i.i in
    omega (arith, c.from-count.ensures, ones-le 64 word (c.type_inv.words c.loop-i.i).fits)

pub loop-i-preserved : goal.loop-i-preserved
loop-i-preserved c =
    let words = c.args.words.now in
    let i = c.loop-i.i in
    let fits : slice_index words i < 2 ^ 64 = (c.type_inv.words i).fits in
    omega (arith, c.loop-i.invariant, c.from-count.ensures, marks_more words i (slice_index words i) refl fits)

pub returns : goal.returns
unfolding Rattle.mig_mem.specs.Marks.marks_in
returns c =
    let end : c.loop-i.i ≡ length c.args.words.now = omega arith in
    c.loop-i.invariant ∙ ap (λ (n : ℕ). count_by (is_set c.args.words.now) (range_with_len 0 (64 * n))) end
