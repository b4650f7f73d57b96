use Rattle.std.proofs.Common.{arith}
use Rattle.mig_mem.proofs.PartWrites.{changes_part}
use Rattle.mig_mem.proofs.parts.write_part.Goals as goal

pub returns : goal.returns
returns g c = changes_part c.args.size c.args.items.now c.copy_from_slice.new.self c.args.content.now c.args.part _
    c.requires.room c.requires.len c.copy_from_slice.ensures.after (omega arith)
