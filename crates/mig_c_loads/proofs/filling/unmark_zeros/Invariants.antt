use Rattle.std.proofs.Common.{◌+◌}
use Rattle.mig_packet.specs.Packet.{normal_count}
use Rattle.mig_apart.proofs.ClaimedPlaces.{HasFreed, nth}
use Rattle.mig_c_loads.proofs.filling.unmark_zeros.Given as goal

abbrev pub invariant-zeros : goal.invariant-zeros
invariant-zeros l = HasFreed l.fn.filled.table
    (λ i. nth l.fn.filled.table l.block l.head.bytes.now (normal_count l.head.bytes.now + i)) l.i l.fn.filled l.filled
