use Rattle.std.proofs.Common.{arith}
use Rattle.mig_mem.proofs.Leaves.{zero_numbers}
use Rattle.mig_mem.proofs.slots.Slots.zeroed.Goals as goal

pub returns : goal.returns
returns g c = rw (c.in_ok-leaves.ensures, c.in_ok-numbers.ensures.items)
    (zero_numbers 512 c.args.count c.div_ceil.result (omega arith) (omega (arith, c.div_ceil.ensures)))
