use Rattle.std.proofs.Common.{◌≡◌, ◌+◌, ◌≤◌, All, vec_len, vec_capacity}
use Rattle.mig_deal.specs.Deal.{SeatView}
use Rattle.mig_send_tests.specs.Slots.{IsWaiting}
use Rattle.mig_send_tests.proofs.workers.seat_all.Given as goal

abbrev pub invariant-loop-seat : goal.invariant-loop-seat
invariant-loop-seat l = record {
  own : All (λ (s : SeatView). s.deal ≡ l.deal) l.seats.items;
  waiting : All (IsWaiting l.deal) l.slots.items;
  count : vec_len l.slots + vec_len l.seats ≡ vec_len l.fn.seats;
  room : vec_len l.fn.seats ≤ vec_capacity l.slots;
}

abbrev pub decreases-loop-seat : goal.decreases-loop-seat
decreases-loop-seat l = goal.left-loop-seat l
