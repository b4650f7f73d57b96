use Rattle.std.proofs.Common.{◌≡◌, length, ◌-◌}
use Rattle.mig_packet.specs.Paging.{left}
use Rattle.mig_in_place.proofs.Midway.{IsAt}
use Rattle.mig_in_place.proofs.channel.Channel.read.Given as goal

abbrev pub invariant-items : goal.invariant-items
invariant-items g l = IsAt l.list l.piece l.taken l.fn.self l.fn.round (g.M.GuestTarget.image l.fn.memory) l.self l.round (g.M.GuestTarget.image l.memory)
    × (g.M.GuestTarget.kept l.memory ≡ g.M.GuestTarget.kept l.fn.memory)

abbrev pub decreases-items : goal.decreases-items
decreases-items g l = left (length l.piece - l.taken) l.self.reader
