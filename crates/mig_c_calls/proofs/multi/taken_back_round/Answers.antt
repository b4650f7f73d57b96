use Rattle.std.proofs.Common.{◌≡◌, refl, arith, length}
use Rattle.mig_c_calls.proofs.RoundsBack.{goes_back}
use Rattle.mig_c_calls.proofs.multi.taken_back_round.Goals as goal

pub returns-then-workers_left-channels : goal.returns-then-workers_left-channels
returns-then-workers_left-channels c = record {
  is_named = refl;
  takes = grind arith;
  idle = grind arith;
  same = λ _. refl;
  wrong = λ _ all. absurd (omega (arith, all, c.workers_left.ensures, c.channels.ensures, c.if-workers_left-channels.true));
  in_turn = λ no. absurd (no refl);
}

pub returns : goal.returns
returns c =
    let all : length c.args.dealt.round.seats ≡ length c.args.dealt.round.sender.channels =
    omega (arith, c.workers_left.ensures, c.channels.ensures, c.if-workers_left-channels.false) in
    record {
      is_named = refl;
      takes = λ _ setting image dirty drained rounds is. goes_back c.args.dealt.round c.take_back.result setting image dirty
          drained rounds c.take_back.ensures is;
      idle = λ _. tt;
      same = λ no. absurd (no refl);
      wrong = grind arith;
      in_turn = λ _. all;
    }
