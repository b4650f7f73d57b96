use Rattle.std.proofs.Common.{arith}
use Rattle.mig_in_place.proofs.Turning.{more_open}
use Rattle.mig_in_place.proofs.pumping.first_open.Goals as goal

pub returns-then-has_turn-clause-some : goal.returns-then-has_turn-clause-some
returns-then-has_turn-clause-some g c = (
  omega (arith, c.source_at-source.ensures, c.loop-number-test.true),
  c.has_turn.ensures.room c.if-has_turn.true,
  c.has_turn.ensures.takes c.if-has_turn.true,
)

pub loop-number-preserved : goal.loop-number-preserved
loop-number-preserved g c =
    more_open c.loop-number.number c.args.load.now c.source_at-source.result c.source_at-source.ensures
    (c.has_turn.ensures.none c.if-has_turn.false) c.loop-number.invariant

pub returns-clause-none : goal.returns-clause-none
returns-clause-none g c = λ from lt. c.loop-number.invariant from (omega (arith, lt, c.loop-number-test.false))
