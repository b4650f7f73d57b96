-- What the calls of a sender on several channels do to a round that is open.
use Rattle.std.proofs.Common.{ℕ, ◌≡◌, ◌<◌, ◌+◌, ◌∙◌, List, length, refl, ap, arith}
use Rattle.std.specs.Prelude.{Some, None}
use Rattle.std.proofs.lemmas.List.{length-append}
use Rattle.mig_deal.specs.Deal.{SeatView}
use Rattle.mig_send.specs.ChannelWork.{seats_of}
use Rattle.mig_send.specs.MultiRound.{TakesBack}
use Rattle.mig_c_calls.specs.declared.sending.DealtRound as held
use Rattle.mig_c_calls.specs.declared.sending.MultiState.TheVariants.{Round}
use Rattle.mig_c_calls.specs.declared.sending.HeldWorker.{HeldWorker}
use Rattle.mig_c_calls.specs.Multi.{GivesNext, CanComeBack, HandsOutWorker, TakesBackWorker}
use Rattle.mig_c_calls.proofs.Sends.{hands, takes, one_seat}

-- a round with a worker left that gives out its next one hands out that worker, with status 0
pub hands_done : (old new : held.DealtRound) (w : HeldWorker) → GivesNext old.round new.round w → 0 < length old.round.seats
    → HandsOutWorker 0 (Round old) (Round new) (Some w)
hands_done old new w gives left =
    let h = gives.hands in
    record {
      is_named = refl;
      next = λ _. record { has_terms = h.worker_terms; is_next = h.is_next; is_channel = omega (arith, h.is_next, left, gives.few) };
      hands = λ _ setting image dirty drained rounds is. hands old.round new.round w setting image dirty drained rounds gives left is;
      same = λ no. absurd (no refl);
      one_fewer = λ _. (h.one_fewer, h.same_terms);
      wrong = grind arith;
      in_turn = λ _. left;
    }

-- a round with a worker left that stays as it was hands out none, with status 60 (no memory)
pub hands_not : (old new : held.DealtRound) → new.round ≡ old.round → 0 < length old.round.seats → HandsOutWorker 60 (Round old) (Round new) None
hands_not old new same left = record {
  is_named = refl;
  next = grind arith;
  hands = grind arith;
  same = λ _. (same, refl);
  one_fewer = grind arith;
  wrong = grind arith;
  in_turn = λ _. left;
}

-- a round that takes back a worker that may come back does so with status 0, and none is left
pub takes_done : (old new : held.DealtRound) (w : HeldWorker) → TakesBack w.worker old.round new.round → CanComeBack w old.round
    → TakesBackWorker 0 w (Round old) (Round new) None
takes_done old new w back can = record {
  is_named = refl;
  takes = λ _ setting image dirty drained rounds more is packs. takes old.round new.round w setting image dirty drained rounds more back can is packs;
  one_more = λ _. (
    ap (λ (l : List SeatView). length l) back.one_more ∙ length-append old.round.spents (seats_of w.worker.hand)
        ∙ ap (λ (n : ℕ). length old.round.spents + n) (one_seat w.worker.hand can.has_ended),
    back.same_terms,
  );
  gone = λ _. refl;
  same = λ no. absurd (no refl);
  wrong = grind arith;
  in_turn = λ _. can;
}

-- a round that stays as it was leaves a worker that may come back, with status 60 (no memory)
pub takes_not : (old new : held.DealtRound) (w left : HeldWorker) → new.round ≡ old.round → left ≡ w → CanComeBack w old.round
    → TakesBackWorker 60 w (Round old) (Round new) (Some left)
takes_not old new w left same still can = record {
  is_named = refl;
  takes = grind arith;
  one_more = grind arith;
  gone = grind arith;
  same = λ _. (same, ap (λ (x : HeldWorker). Some x) still);
  wrong = grind arith;
  in_turn = λ _. can;
}
