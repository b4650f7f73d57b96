use Rattle.std.proofs.Common.{◌≡◌, [], refl, take}
use Rattle.mig_c_calls.specs.Multi.{waiting_in}
use Rattle.mig_c_calls.proofs.Sends.{worker_hands, nothing_left}
use Rattle.mig_c_calls.proofs.sending.HeldWorker.drain.Goals as goal

pub returns : goal.returns
returns c =
    let hands = c.hand_out.ensures in
    record {
      fits = hands.fits;
      hands = λ image sent given more packs.
          worker_hands image sent given more (take c.hand_out.result c.hand_out.new.out) c.refill.new.held _ hands.has_front refl
          (c.refill.ensures.keeps image sent given more packs);
      none = λ zero room.
          let empty : waiting_in c.refill.new.held.drained ≡ [] = hands.none zero room in
          (nothing_left c.hand_out.result c.hand_out.new.out _ _ zero hands.has_front empty, c.refill.ensures.none empty);
      same_work = c.refill.ensures.same_work;
    }
