use Rattle.std.proofs.Common.{refl, arith}
use Rattle.mig_c_calls.proofs.Ends.{finishes}
use Rattle.mig_c_calls.proofs.multi.finished_sender.Goals as goal

pub returns-in-Ok-end_streams : goal.returns-in-Ok-end_streams
returns-in-Ok-end_streams c = record {
  is_named = refl;
  ends = λ _. (tt, refl);
  keeps = λ setting drained rounds sends.
      finishes c.args.left_open c.args.sender c.in-Ok-end_streams.sent c.in-Ok.given c.channels.result setting drained rounds
      c.in-Ok.ensures c.channels.ensures sends.0
      (c.in-Ok-end_streams.ensures.ok drained rounds sends.1);
  same = λ no. absurd (no refl);
  wrong = grind arith;
  in_turn = λ _. tt;
}
