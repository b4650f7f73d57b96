use Rattle.std.proofs.Common.{◌≡◌, ◌∙◌, sym, ap, arith}
use Rattle.mig_mem.specs.Place.{IsPlace}
use Rattle.mig_mapped.specs.Block.{MappedBlock, mapped_block}
use Rattle.mig_mapped.specs.Write.{MappedWriting, written_table}
use Rattle.mig_mapped.proofs.Blocks.{block_is}
use Rattle.mig_mapped.proofs.Marking.{place_in, place_block, page_near}
use Rattle.mig_mapped.proofs.write.MappedWriter.page_offset.Goals as goal

pub overflow_add-result : goal.overflow_add-result
overflow_add-result g c =
    let w : MappedWriting = record { given = c.self.inside.settings; place = c.self.inside.place; blocks = c.self.inside.blocks.items } in
    let place : IsPlace (written_table w) c.args.place = place_in w c.args.self.now c.args.place c.self.view_is c.requires in
    let here : mapped_block w.blocks c.args.place.block ≡ c.index.result.now =
    block_is w.blocks c.args.place.block c.index.result.now (place_block w c.args.place place).0 c.index.ensures in
    omega (arith, page_near w c.args.place c.self.invariant place, ap (λ (b : MappedBlock). b.pages_at) (here ∙ sym c.behind-self.view_is))
