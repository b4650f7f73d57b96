use Rattle.std.proofs.Common.{◌≡◌, ◌+◌, ◌-◌, length, vec_len}
use Rattle.mig_send_tests.proofs.workers.draw_all.Given as goal

abbrev pub invariant-loop-number : goal.invariant-loop-number
invariant-loop-number l = record {
  own : l.seat.deal ≡ l.deal;
  places : vec_len l.hall.times ≡ l.deal.batches + l.deal.seats;
}

-- the n-th draw of a seat is at least the n-th number, so no seat draws work infinitely often
abbrev pub decreases-loop-number : goal.decreases-loop-number
decreases-loop-number l = l.deal.batches - length l.seat.drawn
