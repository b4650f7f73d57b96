use Rattle.std.proofs.Common.{◌≡◌, ◌∙◌, ◌<◌, length, sym, ap, subst, arith}
use Rattle.mig_mapped.specs.Block.{MappedBlock, mapped_block, end_of}
use Rattle.mig_mapped.specs.Write.{MappedWriting}
use Rattle.mig_mapped.proofs.Blocks.{block_is}
use Rattle.mig_mapped.proofs.Offsets.{pages_near, id_short}
use Rattle.mig_mapped.proofs.write.MappedWriter.head.Goals as goal

pub overflow_mul-len : goal.overflow_mul-len
overflow_mul-len g c =
    let w : MappedWriting = record { given = c.self.inside.settings; place = c.self.inside.place; blocks = c.self.inside.blocks.items } in
    let lt : c.args.block < length w.blocks = subst (λ (x : MappedWriting). c.args.block < length x.blocks) (sym c.self.view_is) c.requires in
    let here : mapped_block w.blocks c.args.block ≡ c.index-block.result.now =
    block_is w.blocks c.args.block c.index-block.result.now lt c.index-block.ensures in
    omega (arith, pages_near w c.args.block c.self.invariant lt, ap (end_of w.given.page_size) (here ∙ sym c.block.view_is))

pub overflow_cast-len : goal.overflow_cast-len
overflow_cast-len g c =
    let w : MappedWriting = record { given = c.self.inside.settings; place = c.self.inside.place; blocks = c.self.inside.blocks.items } in
    let lt : c.args.block < length w.blocks = subst (λ (x : MappedWriting). c.args.block < length x.blocks) (sym c.self.view_is) c.requires in
    let here : mapped_block w.blocks c.args.block ≡ c.index-block.result.now =
    block_is w.blocks c.args.block c.index-block.result.now lt c.index-block.ensures in
    omega (arith, id_short w c.args.block c.self.invariant lt, ap (λ (b : MappedBlock). length b.id) (here ∙ sym c.block.view_is), c.len.ensures)
