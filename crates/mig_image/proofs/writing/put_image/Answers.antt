use Rattle.std.proofs.Common.{length, ap, ◌∙◌, arith}
use Rattle.std.specs.Io.KnownBytes.{append_known}
use Rattle.mig_mem.specs.RamTable.{RamTable}
use Rattle.mig_image.proofs.Written.{block_written, image_written}
use Rattle.mig_image.proofs.writing.put_image.Goals as goal

pub loop-block-preserved : goal.loop-block-preserved
loop-block-preserved g c =
    block_written c.args.memory.now c.loop-block.block _
    (append_known (g.W.Write.contents c.loop-block.out) c.loop-block.buffer.items) _ c.loop-block.invariant c.in_ok-put_block.ensures

pub returns : goal.returns
returns g c = image_written c.args.memory.now c.loop-block.block c.write_out.result _ (g.W.Write.contents c.loop-block.out) _ c.loop-block.buffer.items
    (let le = c.loop-block.auto.block-end in let ge = c.loop-block-test.false in let e = c.len-block-end.ensures.value
    ∙ ap (λ (t : RamTable). length t.blocks) c.table.ensures.value in omega (arith, le, ge, e)) c.loop-block.invariant c.write_out.ensures.bytes
