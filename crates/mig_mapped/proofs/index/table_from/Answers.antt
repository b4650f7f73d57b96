use Rattle.std.proofs.Common.{◌∙◌, ap, List, map}
use Rattle.std.proofs.lemmas.List.{take_all}
use Rattle.mig_mem.specs.RamTable.{Block, entry_block}
use Rattle.mig_stream.proofs.Entering.{memory_alone}
use Rattle.mig_mapped.specs.Block.{ram_block, table_of}
use Rattle.mig_mapped.proofs.index.table_from.Goals as goal

pub no_memory-requires : goal.no_memory-requires
no_memory-requires g c =
    let all = c.loop-block.invariant ∙ ap (map ram_block) (take_all c.loop-block.block-index c.args.blocks.now c.loop-block-test.false) in
    memory_alone (table_of c.args.page_size c.args.blocks.now) (record { page_size = c.args.page_size; blocks = map entry_block c.loop-block.list.items })
    c.in-Err.fault c.requires
    (ap (λ (b : List Block). record { page_size = c.args.page_size; blocks = b }) all) c.in-Err.ensures.err
