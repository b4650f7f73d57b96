use Rattle.std.proofs.Common.{◌≡◌, refl, arith, length}
use Rattle.mig_c_calls.proofs.Sends.{ends}
use Rattle.mig_c_calls.proofs.multi.ended_round.Goals as goal

pub returns-then-given_back-channels : goal.returns-then-given_back-channels
returns-then-given_back-channels c = record {
  is_named = refl;
  ends = grind arith;
  idle = grind arith;
  same = λ _. refl;
  wrong = λ _ all. absurd (omega (arith, all, c.given_back.ensures, c.channels.ensures, c.if-given_back-channels.true));
  in_turn = λ no. absurd (no refl);
}

pub returns-in-Ok : goal.returns-in-Ok
returns-in-Ok c =
    let all : length c.args.dealt.round.spents ≡ length c.args.dealt.round.sender.channels =
    omega (arith, c.given_back.ensures, c.channels.ensures, c.if-given_back-channels.false) in
    record {
      is_named = refl;
      ends = λ _ setting image dirty drained rounds lawful table is.
          ends c.args.dealt.round c.in-Ok.sender setting image dirty drained rounds c.in-Ok.ensures.ok all lawful table is;
      idle = λ _. tt;
      same = λ no. absurd (no refl);
      wrong = grind arith;
      in_turn = λ _. all;
    }

pub returns-in-Err : goal.returns-in-Err
returns-in-Err c = record {
  is_named = refl;
  ends = grind arith;
  idle = grind arith;
  same = λ _. c.in-Err.ensures.err;
  wrong = grind arith;
  in_turn = λ _. omega (arith, c.given_back.ensures, c.channels.ensures, c.if-given_back-channels.false);
}
