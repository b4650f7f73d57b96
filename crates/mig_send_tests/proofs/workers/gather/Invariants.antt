use Rattle.std.proofs.Common.{◌≡◌, ◌+◌, ◌≤◌, All, vec_len, vec_capacity}
use Rattle.mig_deal.specs.Deal.{SeatView}
use Rattle.mig_send_tests.specs.Slots.{IsDone}
use Rattle.mig_send_tests.proofs.workers.gather.Given as goal

abbrev pub invariant-loop-slot : goal.invariant-loop-slot
invariant-loop-slot l = record {
  done : All (IsDone l.deal) l.slots.items;
  own : All (λ (s : SeatView). s.deal ≡ l.deal) l.spents.items;
  count : vec_len l.spents + vec_len l.slots ≡ vec_len l.fn.slots;
  room : vec_len l.fn.slots ≤ vec_capacity l.spents;
}

abbrev pub decreases-loop-slot : goal.decreases-loop-slot
decreases-loop-slot l = goal.left-loop-slot l
