use Rattle.mig_apart.proofs.ClaimedPlaces.{HasClaimed, nth}
use Rattle.mig_c_loads.proofs.filling.mark_normals.Given as goal

abbrev pub invariant-normals : goal.invariant-normals
invariant-normals l = HasClaimed l.fn.filled.table (nth l.fn.filled.table l.block l.head.bytes.now) l.i l.fn.filled l.filled
