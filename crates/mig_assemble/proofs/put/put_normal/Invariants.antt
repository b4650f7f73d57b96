use Rattle.std.proofs.Common.{◌≡◌, map}
use Rattle.std.specs.List.{range_with_len}
use Rattle.mig_mem.specs.Round.{with_round}
use Rattle.mig_assemble.proofs.PacketParts.{normal_page_at}
use Rattle.mig_assemble.proofs.put.put_normal.Given as goal

abbrev pub invariant-loop-i : goal.invariant-loop-i
invariant-loop-i g l =
    g.M.GuestTarget.image l.memory ≡ with_round (g.M.GuestTarget.image l.fn.memory)
    (map (normal_page_at (g.M.GuestTarget.image l.fn.memory).table l.block l.packet.page_size l.packet.bytes.now) (range_with_len 0 l.i))
