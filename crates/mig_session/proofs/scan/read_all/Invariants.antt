use Rattle.std.proofs.Common.{length, ◌-◌}
use Rattle.mig_packet.specs.Paging.{left}
use Rattle.mig_session.proofs.Scanning.{IsAt}
use Rattle.mig_session.proofs.scan.read_all.Given as goal

abbrev pub invariant-items : goal.invariant-items
invariant-items g l = IsAt l.piece l.taken l.fn.rounds l.rounds l.fn.reader l.reader

abbrev pub decreases-items : goal.decreases-items
decreases-items g l = left (length l.piece - l.taken) l.reader
