use Rattle.std.proofs.Common.{◌≡◌, take}
use Rattle.std.specs.List.{flat_map}
use Rattle.mig_mem.specs.Round.{with_round}
use Rattle.mig_packet.specs.Lent.{fields}
use Rattle.mig_assemble.specs.declared.judge.Placed.{Placed}
use Rattle.mig_assemble.specs.Judging.{packet_pages}
use Rattle.mig_assemble.proofs.put.put_packets.Given as goal

abbrev pub invariant-loop-one : goal.invariant-loop-one
invariant-loop-one g l =
    g.M.GuestTarget.image l.memory ≡ with_round (g.M.GuestTarget.image l.fn.memory)
    (flat_map (λ (x : Placed). packet_pages (g.M.GuestTarget.image l.fn.memory).table (fields x.packet)) (take l.one-index l.placed))
