use Rattle.std.proofs.Common.{refl, arith}
use Rattle.mig_c_calls.proofs.Drains.{breaks_off}
use Rattle.mig_c_calls.proofs.sending.Multi.cancel_round.Goals as goal

pub returns : goal.returns
returns c = record {
  is_named = refl;
  gives_up = λ _. (c.nothing_left.ensures, c.none.ensures);
  breaks_off = λ _ setting image dirty given rounds here. breaks_off setting image dirty given rounds c.args.self.now here;
  same = λ no. absurd (no refl);
  wrong = grind arith;
  in_turn = λ _. c.if-not-is_open.ensures.0 refl;
}
