use Rattle.std.proofs.Common.{◌≡◌, map}
use Rattle.std.specs.List.{range_with_len}
use Rattle.mig_mem.specs.Round.{with_round}
use Rattle.mig_assemble.proofs.PacketParts.{zero_page_at}
use Rattle.mig_in_place.proofs.put.put_zeros.Given as goal

abbrev pub invariant-loop-i : goal.invariant-loop-i
invariant-loop-i g l =
    (g.M.GuestTarget.image l.memory ≡ with_round (g.M.GuestTarget.image l.fn.memory)
    (map (zero_page_at (g.M.GuestTarget.image l.fn.memory).table l.block l.head.bytes.now) (range_with_len l.normal_count l.i)))
    × (g.M.GuestTarget.kept l.memory ≡ g.M.GuestTarget.kept l.fn.memory)
