use Rattle.std.proofs.Common.{◌∙◌, sym, arith}
use Rattle.mig_uses.proofs.StraightTurns.{goes_both, none_marked, answered_so}
use Rattle.mig_uses.proofs.straight.take_turns.Goals as goal

pub returns-in_default : goal.returns-in_default
returns-in_default g c = λ given uuid first texts free.
    answered_so given uuid first (g.M.GuestTarget.image c.loop.memory) c.loop.load c.verdict_of.result c.verdict_of.ensures
    (c.loop.invariant.goes given uuid first texts free)

pub loop-preserved : goal.loop-preserved
loop-preserved g c =
    let image = g.M.GuestTarget.image in
    record {
      goes = goes_both (image c.args.memory.now) (image c.loop.memory)
          (image c.take_turn.new.memory) c.args.load.now c.loop.load c.take_turn.new.load c.loop.invariant.goes c.in_ok-take_turn.ensures.goes;
      nothing = none_marked c.take_turn.new.load.claimed (omega (arith, c.claimed.ensures, c.if-claimed-ne0.false));
      table = c.in_ok-take_turn.ensures.tables.0 ∙ c.loop.invariant.table ∙ sym c.in_ok-take_turn.ensures.tables.1;
    }

pub returns : goal.returns
returns g c = λ given uuid first texts free.
    answered_so given uuid first (g.M.GuestTarget.image c.loop.memory) c.loop.load c.verdict_of-2.result c.verdict_of-2.ensures
    (c.loop.invariant.goes given uuid first texts free)
