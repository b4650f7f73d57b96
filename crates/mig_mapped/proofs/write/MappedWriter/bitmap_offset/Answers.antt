use Rattle.std.proofs.Common.{◌≡◌, ◌∙◌, ◌<◌, length, sym, ap, subst, arith}
use Rattle.mig_mapped.specs.Block.{MappedBlock, mapped_block}
use Rattle.mig_mapped.specs.Write.{MappedWriting, head_offset}
use Rattle.mig_mapped.proofs.Blocks.{block_is}
use Rattle.mig_mapped.proofs.Offsets.{bitmap_near}
use Rattle.mig_mapped.proofs.write.MappedWriter.bitmap_offset.Goals as goal

pub overflow_add-result-3 : goal.overflow_add-result-3
overflow_add-result-3 g c =
    let w : MappedWriting = record { given = c.self.inside.settings; place = c.self.inside.place; blocks = c.self.inside.blocks.items } in
    let lt : c.args.block < length w.blocks = subst (λ (x : MappedWriting). c.args.block < length x.blocks) (sym c.self.view_is) c.requires in
    let here : mapped_block w.blocks c.args.block ≡ c.index.result.now = block_is w.blocks c.args.block c.index.result.now lt c.index.ensures in
    omega (
      arith,
      bitmap_near w c.args.block c.self.invariant lt,
      ap (λ (x : MappedWriting). head_offset x c.args.block) c.self.view_is,
      c.offset_of.ensures,
      ap (λ (b : MappedBlock). length b.id) (here ∙ sym c.behind-self.view_is),
      c.len.ensures,
    )
