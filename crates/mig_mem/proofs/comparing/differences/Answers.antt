use Rattle.std.proofs.Common.{ℕ, ◌≡◌, ◌∙◌, length, ap, arith}
use Rattle.std.specs.declared.vec.Vec.{Vec}
use Rattle.std.proofs.lemmas.List.{map_push}
use Rattle.std.specs.Prelude.{slice_get}
use Rattle.mig_mem.specs.RamTable.{RamTable}
use Rattle.mig_mem.specs.PlaceSet.{PlaceSet}
use Rattle.mig_mem.specs.Buffers.{buffers_of}
use Rattle.mig_mem.proofs.Differing.{rows_more, differing_set, least_differing}
use Rattle.mig_mem.proofs.comparing.differences.Goals as goal

pub loop-block-preserved : goal.loop-block-preserved
loop-block-preserved g c =
    let a = c.args.a.now in
    let b = c.args.b.now in
    let v = c.in_ok-row.field-0 in
    let rows = c.loop-block.rows.items in
    rw (c.in_ok-push.ensures.items, map_push (λ (x : Vec ℕ g.row.C.Denot). x.items) rows v)
    (rows_more a b c.loop-block.block (buffers_of rows) v.items c.loop-block.invariant c.in_ok-row.ensures)

pub returns-clause-value : goal.returns-clause-value
returns-clause-value g c =
    let end : c.loop-block.block ≡ length c.args.a.now.table.blocks =
    omega (arith, c.len-block-end.ensures.value, ap (λ (t : RamTable). length t.blocks) c.table-2.ensures.value) in
    c.from_rows.ensures ∙ differing_set c.args.a.now c.args.b.now c.in_ok-table.table c.loop-block.rows.items c.loop-block.block
    (c.in_ok-table.ensures ∙ c.table-3.ensures.value) end c.loop-block.invariant

pub returns-clause-least : goal.returns-clause-least
returns-clause-least g c =
    let end : c.loop-block.block ≡ length c.args.a.now.table.blocks =
    omega (arith, c.len-block-end.ensures.value, ap (λ (t : RamTable). length t.blocks) c.table-2.ensures.value) in
    let value = c.from_rows.ensures ∙ differing_set c.args.a.now c.args.b.now c.in_ok-table.table c.loop-block.rows.items
    c.loop-block.block (c.in_ok-table.ensures ∙ c.table-3.ensures.value) end c.loop-block.invariant in
    ap (λ (s : PlaceSet). slice_get s.marked 0) value ∙ least_differing c.args.a.now c.args.b.now
