use Rattle.std.proofs.Common.{◌≡◌, ◌+◌, ◌≤◌, ◌++◌, map}
use Rattle.std.specs.Prelude.{reverse, vec_len, vec_capacity}
use Rattle.std.specs.List.{All}
use Rattle.mig_deal.specs.Deal.{SeatView, new_seat}
use Rattle.mig_send.specs.MultiSending.{texts_of}
use Rattle.mig_send.specs.Workers.{IsReady, slot_text}
use Rattle.mig_send.proofs.workers.seat_all.Given as goal

abbrev pub invariant-texts : goal.invariant-texts
invariant-texts g l = record {
  new : All (λ (seat : SeatView). seat ≡ new_seat l.deal) l.seats.items;
  ready : All (IsReady l.deal) l.slots.items;
  texts : texts_of l.fn.channels.items ≡ map slot_text l.slots.items ++ texts_of (reverse l.channels.items);
  as_many : vec_len l.seats ≡ vec_len l.channels;
  count : vec_len l.slots + vec_len l.channels ≡ vec_len l.fn.channels;
  room : vec_len l.slots + vec_len l.channels ≤ vec_capacity l.slots;
  capacity : vec_capacity l.channels ≡ vec_capacity l.fn.channels;
}

abbrev pub decreases-texts : goal.decreases-texts
decreases-texts g l = vec_len l.channels
