use Rattle.std.proofs.Common.{arith, sym}
use Rattle.mig_packet.specs.PacketHead.{offsets_in}
use Rattle.mig_mem.proofs.Lists.{position_past}
use Rattle.mig_assemble.specs.Judging.{is_outside}
use Rattle.mig_assemble.proofs.places.first_outside.Goals as goal

pub returns : goal.returns
returns c =
    sym (position_past (is_outside c.args.head.now.page_size c.args.pages) (offsets_in c.args.head.now.bytes.now) c.loop-i.i 0 (omega arith) c.loop-i.invariant)
