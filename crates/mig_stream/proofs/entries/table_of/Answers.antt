use Rattle.std.proofs.Common.{◌∙◌, ap, List}
use Rattle.std.proofs.lemmas.List.{take_all}
use Rattle.mig_mem.specs.RamTable.{Block, RamTable, table_from}
use Rattle.mig_stream.proofs.Entering.{memory_alone}
use Rattle.mig_stream.proofs.entries.table_of.Goals as goal

pub no_memory-requires : goal.no_memory-requires
no_memory-requires g c =
    let table : RamTable = record { page_size = c.args.page_size; blocks = c.args.blocks.now } in
    let all = c.loop-block.invariant ∙ take_all c.loop-block.block-index c.args.blocks.now c.loop-block-test.false in
    memory_alone table (table_from c.args.page_size c.loop-block.list.items) c.in-Err.fault c.requires
    (ap (λ (b : List Block). record { page_size = c.args.page_size; blocks = b }) all) c.in-Err.ensures.err
