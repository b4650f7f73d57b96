use Rattle.std.proofs.Common.{ℕ, ◌≡◌, ◌*◌, ◌≤◌, List, length, drop, sym, ap, subst, ◌∙◌, arith}
use Rattle.mig_mem.specs.Image.{Image}
use Rattle.mig_mem.specs.RamTable.{RamTable, block}
use Rattle.mig_image.specs.File.{with_block}
use Rattle.mig_image.proofs.FirstPages.{first_blocks, room_for_block, one_block_more, block_more, all_blocks, is_read}
use Rattle.mig_image.proofs.reading.memory_of.Goals as goal

pub take_block-left-requires-clause-bytes : goal.take_block-left-requires-clause-bytes
take_block-left-requires-clause-bytes g c =
    let t : RamTable = c.args.table.now in
    let i : ℕ = c.loop-block.block in
    let same : c.loop-block.memory.table ≡ t = ap (λ (m : Image). m.table) c.loop-block.invariant.0 in
    let room = room_for_block t c.args.bytes.now i
    (let lt = c.loop-block-test.true in let e = c.len-block-end.ensures.value in omega (arith, lt, e)) (c.if-bytes-file_len.false ∙ c.file_len.ensures) in
    subst (λ (u : RamTable). (block u.blocks i).pages * u.page_size ≤ length c.loop-block.left.now) (sym same)
    (subst (λ (l : List ℕ). (block t.blocks i).pages * t.page_size ≤ length l) (sym c.loop-block.invariant.1) room)

pub loop-block-preserved : goal.loop-block-preserved
loop-block-preserved g c =
    let t : RamTable = c.args.table.now in
    let i : ℕ = c.loop-block.block in
    let bytes : List ℕ = c.args.bytes.now in
    let same : c.loop-block.memory.table ≡ t = ap (λ (m : Image). m.table) c.loop-block.invariant.0 in (
      c.take_block-left.ensures.memory ∙ ap (λ (m : Image). with_block m i c.loop-block.left.now) c.loop-block.invariant.0
          ∙ ap (λ (l : List ℕ). with_block (first_blocks t bytes i) i l) c.loop-block.invariant.1 ∙ one_block_more t bytes i,
      block_more t bytes c.loop-block.left.now c.take_block-left.result.now i
          (let lt = c.loop-block-test.true in let e = c.len-block-end.ensures.value in omega (arith, lt, e)) c.loop-block.invariant.1
          (subst (λ (u : RamTable). c.take_block-left.result.now ≡ drop
          ((block u.blocks i).pages * u.page_size) c.loop-block.left.now) same c.take_block-left.ensures.rest),
    )

pub returns : goal.returns
returns g c = is_read c.args.table.now c.args.bytes.now c.loop-block.memory (c.if-bytes-file_len.false ∙ c.file_len.ensures)
    (c.loop-block.invariant.0 ∙ all_blocks c.args.table.now c.args.bytes.now c.loop-block.block
    (let le = c.loop-block.auto.block-end in let ge = c.loop-block-test.false in let e = c.len-block-end.ensures.value in omega (arith, le, ge, e)))
