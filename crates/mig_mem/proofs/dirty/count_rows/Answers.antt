use Rattle.std.proofs.Common.{ℕ, ◌≡◌, ◌<◌, ◌≤◌, ◌-◌, ◌*◌, ◌^◌, ◌∙◌, List, [], length, get_or, sym, ap, arith}
use Rattle.std.proofs.lemmas.List.{length-map}
use Rattle.std.proofs.lemmas.List.Sums.{sum_by_more}
use Rattle.std.specs.declared.vec.Vec.{Vec}
use Rattle.mig_mem.specs.Buffers.{buffers_of}
use Rattle.mig_mem.specs.Marks.{marks_in}
use Rattle.mig_mem.proofs.Sets.{row_at}
use Rattle.mig_mem.proofs.Counts.{marks_few}
use Rattle.mig_mem.proofs.dirty.count_rows.Goals as goal

pub count-count-requires : goal.count-count-requires
count-count-requires g c =
    let rows = buffers_of c.args.rows.now in
    let i = c.loop-row.row-index in
    let lt : i < length rows = omega (arith, length-map c.args.rows.now (λ (v : Vec ℕ g.row.A.Denot). v.items)) in
    let row : get_or rows i [] ≡ c.deref.result.now = row_at c.args.rows.now i c.row-item.result (omega arith) c.row-item.is ∙ sym c.deref.ensures.value in
    rw row at (c.requires.short i [] lt)

pub overflow_add-count : goal.overflow_add-count
overflow_add-count g c =
    let rows = buffers_of c.args.rows.now in
    let i = c.loop-row.row-index in
    let lt : i < length rows = omega (arith, length-map c.args.rows.now (λ (v : Vec ℕ g.row.A.Denot). v.items)) in
    let row : get_or rows i [] ≡ c.deref.result.now = row_at c.args.rows.now i c.row-item.result (omega arith) c.row-item.is ∙ sym c.deref.ensures.value in
    let short : length c.deref.result.now < 2 ^ 50 = rw row at (c.requires.short i [] lt) in
    let counted : c.count-count.result ≡ marks_in c.deref.result.now = c.count-count.ensures in
    let few : c.loop-row.count ≤ i * (2 ^ 56 - 64) = c.loop-row.invariant.few in
    let all : length c.args.rows.now ≤ 256 = c.requires.few in
    omega (arith, marks_few c.deref.result.now)

pub loop-row-preserved : goal.loop-row-preserved
loop-row-preserved g c =
    let rows = buffers_of c.args.rows.now in
    let i = c.loop-row.row-index in
    let lt : i < length rows = omega (arith, length-map c.args.rows.now (λ (v : Vec ℕ g.row.A.Denot). v.items)) in
    let row : get_or rows i [] ≡ c.deref.result.now = row_at c.args.rows.now i c.row-item.result (omega arith) c.row-item.is ∙ sym c.deref.ensures.value in
    let short : length c.deref.result.now < 2 ^ 50 = rw row at (c.requires.short i [] lt) in
    let counted : c.count-count.result ≡ marks_in c.deref.result.now = c.count-count.ensures in
    let few : c.loop-row.count ≤ i * (2 ^ 56 - 64) = c.loop-row.invariant.few in
    record {
      counts = omega (arith, c.loop-row.invariant.counts, sum_by_more marks_in rows i [] lt, ap (λ (l : List ℕ). marks_in l) row);
      few = omega (arith, marks_few c.deref.result.now);
    }
