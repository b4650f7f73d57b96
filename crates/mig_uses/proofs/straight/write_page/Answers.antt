use Rattle.std.proofs.Common.{arith}
use Rattle.mig_mem.proofs.PartWrites.{changes_part}
use Rattle.mig_uses.proofs.straight.write_page.Goals as goal

pub returns : goal.returns
returns c = changes_part c.args.size c.args.bytes.now c.copy_from_slice.new.self c.args.content.now c.args.page _ c.requires.room
    c.requires.len c.copy_from_slice.ensures.after (omega arith)
