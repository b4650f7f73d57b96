use Rattle.std.proofs.Common.{◌-◌, length}
use Rattle.mig_send.proofs.Working.{HasFilledSoFar}
use Rattle.mig_send.proofs.sink.fill.Given as goal

abbrev pub invariant-draws : goal.invariant-draws
invariant-draws g l = record {
  so_far : HasFilledSoFar g.S.Sink.entries (g.M.GuestPages.image l.memory) l.batches l.fn.seat l.seat (g.S.Sink.held l.fn.sink) (g.S.Sink.held l.sink) l.made;
}

-- each number is drawn once, so a seat draws no more often than there are batches, and once
abbrev pub decreases-draws : goal.decreases-draws
decreases-draws g l = l.deal.batches - length l.seat.drawn
