use Rattle.std.proofs.Common.{◌+◌, ◌≤◌}
use Rattle.std.specs.Prelude.{reverse, vec_len, vec_capacity}
use Rattle.std.specs.List.{All}
use Rattle.mig_send.specs.Workers.{IsAnswer}
use Rattle.mig_send.proofs.Gathering.{HaveReturned}
use Rattle.mig_send.proofs.workers.put_back.Given as goal

abbrev pub invariant-slots : goal.invariant-slots
invariant-slots g l = record {
  done : All IsAnswer (reverse l.slots.items);
  returned : HaveReturned l.fn.slots.items l.slots.items l.channels.items l.spents.items l.all_made;
  room_for_texts : vec_len l.channels + vec_len l.slots ≤ vec_capacity l.channels;
  room_for_seats : vec_len l.spents + vec_len l.slots ≤ vec_capacity l.spents;
}

abbrev pub decreases-slots : goal.decreases-slots
decreases-slots g l = vec_len l.slots
