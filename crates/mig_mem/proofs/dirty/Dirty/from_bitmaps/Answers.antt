use Rattle.std.proofs.Common.{ℕ, ◌≡◌, ◌<◌, ◌∙◌, List, [], length, sym, ap, subst, arith}
use Rattle.std.specs.declared.vec.Vec.{Vec}
use Rattle.std.specs.Borrow.{Bor}
use Rattle.std.proofs.lemmas.List.{map_push, get_or-map, length-map}
use Rattle.mig_mem.specs.RamTable.{RamTable, block}
use Rattle.mig_mem.specs.Buffers.{buffers_of}
use Rattle.mig_mem.specs.Bitmaps.{IsRowOf, bitmap_of, lent_words}
use Rattle.mig_mem.specs.Marks.{set_in, AreMarks}
use Rattle.mig_mem.proofs.BitmapRows.{AreRowsOf, one_row_more, rows_are_marks, rows_make_set}
use Rattle.mig_mem.proofs.dirty.Dirty.from_bitmaps.Goals as goal

pub loop-block-preserved : goal.loop-block-preserved
loop-block-preserved g c =
    let table = c.args.table.now in
    let bitmaps = lent_words c.args.bitmaps.now in
    let v = c.in_ok-row.field-0 in
    let rows = c.loop-block.rows.items in
    let is : IsRowOf (bitmap_of bitmaps c.loop-block.block) (block table.blocks c.loop-block.block).pages v.items =
    let lt : c.loop-block.block < length c.args.bitmaps.now =
    omega (arith, c.len-block-end.ensures.value, c.requires.same_count, length-map c.args.bitmaps.now (λ (b : Bor (List ℕ)). b.now)) in
    subst (λ (n : ℕ). IsRowOf (bitmap_of bitmaps c.loop-block.block) n v.items) c.pages.ensures.value
    (subst (λ (l : List ℕ). IsRowOf l c.pages.result v.items)
    (sym (get_or-map (λ (b : Bor (List ℕ)). b.now) c.args.bitmaps.now c.loop-block.block _ [] lt)) c.in_ok-row.ensures) in
    rw (c.in_ok-push.ensures.items, map_push (λ (x : Vec ℕ g.row.A.Denot). x.items) rows v)
    (one_row_more table bitmaps c.loop-block.block (buffers_of rows) v.items c.loop-block.invariant is)

pub from_rows-requires : goal.from_rows-requires
from_rows-requires g c =
    let table = c.args.table.now in
    let end : c.loop-block.block ≡ length table.blocks = omega (arith, c.len-block-end.ensures.value) in
    let all : AreRowsOf table (lent_words c.args.bitmaps.now) (length table.blocks) (buffers_of c.loop-block.rows.items) = rw end at c.loop-block.invariant in
    subst (λ (t : RamTable). AreMarks t (buffers_of c.loop-block.rows.items)) (sym c.in_ok-table.ensures)
    (rows_are_marks table (lent_words c.args.bitmaps.now) (buffers_of c.loop-block.rows.items) c.len.ensures.table all)

pub returns : goal.returns
returns g c =
    let table = c.args.table.now in
    let end : c.loop-block.block ≡ length table.blocks = omega (arith, c.len-block-end.ensures.value) in
    let all : AreRowsOf table (lent_words c.args.bitmaps.now) (length table.blocks) (buffers_of c.loop-block.rows.items) = rw end at c.loop-block.invariant in
    c.from_rows.ensures ∙ ap (λ (t : RamTable). set_in t c.loop-block.rows.items) c.in_ok-table.ensures
    ∙ rows_make_set table (lent_words c.args.bitmaps.now) c.loop-block.rows.items all
