use Rattle.std.proofs.Common.{arith}
use Rattle.mig_c_loads.proofs.HeldBlocks.{content_written}
use Rattle.mig_c_loads.proofs.putting.write_page.Goals as goal

pub returns : goal.returns
returns c = content_written c.args.size c.args.page _ c.args.bytes.now c.copy_from_slice.new.self c.args.content.now
    c.requires.len c.copy_from_slice.ensures.after (omega arith)
