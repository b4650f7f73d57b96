use Rattle.std.proofs.Common.{arith}
use Rattle.mig_in_place.proofs.Turning.{more_waits, all_waits, some_wait, none_wait_there}
use Rattle.mig_in_place.proofs.pumping.first_waiting.Goals as goal
use Rattle.mig_in_place.proofs.pumping.first_waiting.Goals.{else-not-is_empty-via-then-not-is_empty+else-has_turn, else-not-is_empty-via-else-not-is_empty}

pub returns-then-has_turn-clause-some : goal.returns-then-has_turn-clause-some
returns-then-has_turn-clause-some g c = (
  omega (arith, c.source_at-source.ensures, c.loop-number-test.true),
  c.has_turn.ensures.room c.if-has_turn.true,
  some_wait c.args.sources.now c.source_at-source.result c.loop-number.number c.index-sources-number.result c.waiting.result.now c.is_empty.result
      c.source_at-source.ensures c.loop-number-test.true c.index-sources-number.is c.waiting.ensures.value c.is_empty.ensures c.if-not-is_empty.true,
  c.has_turn.ensures.takes c.if-has_turn.true,
)

pub loop-number-preserved : goal.loop-number-preserved
loop-number-preserved g c = elim c.else-not-is_empty.branch [
  | else-not-is_empty-via-then-not-is_empty+else-has_turn w ↦
      more_waits c.loop-number.number c.args.sources.now c.args.load.now c.source_at-source.result c.source_at-source.ensures
      (λ some. w.has_turn.ensures.none w.if-has_turn.false) c.loop-number.invariant
  | else-not-is_empty-via-else-not-is_empty w ↦
      more_waits c.loop-number.number c.args.sources.now c.args.load.now c.source_at-source.result c.source_at-source.ensures
      (λ some. absurd (some (none_wait_there c.args.sources.now c.source_at-source.result c.loop-number.number
      c.index-sources-number.result c.waiting.result.now c.is_empty.result
      c.source_at-source.ensures c.loop-number-test.true c.index-sources-number.is c.waiting.ensures.value c.is_empty.ensures w.if-not-is_empty.false)))
      c.loop-number.invariant
]

pub returns-clause-none : goal.returns-clause-none
returns-clause-none g c = all_waits c.args.sources.now c.args.load.now (λ from lt. c.loop-number.invariant from (omega (arith, lt, c.loop-number-test.false)))
