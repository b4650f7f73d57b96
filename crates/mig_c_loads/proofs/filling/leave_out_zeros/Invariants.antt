use Rattle.mig_c_loads.proofs.LeftOut.{HasLeft}
use Rattle.mig_c_loads.proofs.filling.leave_out_zeros.Given as goal

abbrev pub invariant-zeros : goal.invariant-zeros
invariant-zeros l = HasLeft l.filled l.block l.fn.seen l.all l.seen l.left l.i
