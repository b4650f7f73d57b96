use Rattle.std.proofs.Common.{◌≡◌, ◌≤◌, ◌-◌, ◌∙◌, length, sym, ap, subst, arith}
use Rattle.mig_mapped.specs.Block.{mapped_block, end_of}
use Rattle.mig_mapped.specs.Write.{MappedWriting}
use Rattle.mig_mapped.proofs.Blocks.{block_is}
use Rattle.mig_mapped.proofs.Offsets.{pages_near}
use Rattle.mig_mapped.proofs.write.MappedWriter.offset_of.Goals as goal

pub overflow_mul-result : goal.overflow_mul-result
overflow_mul-result g c =
    let w : MappedWriting = record { given = c.self.inside.settings; place = c.self.inside.place; blocks = c.self.inside.blocks.items } in
    let le : c.args.block ≤ length w.blocks = subst (λ (x : MappedWriting). c.args.block ≤ length x.blocks) (sym c.self.view_is) c.requires in
    let here : mapped_block w.blocks (c.args.block - 1) ≡ c.index-before.result.now =
    block_is w.blocks (c.args.block - 1) c.index-before.result.now (omega arith) c.index-before.ensures in
    omega (arith, pages_near w (c.args.block - 1) c.self.invariant (omega arith), ap (end_of w.given.page_size) (here ∙ sym c.before-2.view_is))

pub overflow_add-result : goal.overflow_add-result
overflow_add-result g c =
    let w : MappedWriting = record { given = c.self.inside.settings; place = c.self.inside.place; blocks = c.self.inside.blocks.items } in
    let le : c.args.block ≤ length w.blocks = subst (λ (x : MappedWriting). c.args.block ≤ length x.blocks) (sym c.self.view_is) c.requires in
    let here : mapped_block w.blocks (c.args.block - 1) ≡ c.index-before.result.now =
    block_is w.blocks (c.args.block - 1) c.index-before.result.now (omega arith) c.index-before.ensures in
    omega (arith, pages_near w (c.args.block - 1) c.self.invariant (omega arith), ap (end_of w.given.page_size) (here ∙ sym c.before-2.view_is))
