use Rattle.mig_scenario.proofs.Entries.{entry_more, entry_same}
use Rattle.mig_scenario.proofs.judging.table_of.Goals as goal
use Rattle.mig_scenario.proofs.judging.table_of.Goals.{in-Block+in_ok-id+else-is_err, in_default}

pub loop-line-preserved : goal.loop-line-preserved
loop-line-preserved g c = elim c.match-line.branch [
  | in-Block+in_ok-id+else-is_err w ↦
      rw (w.blocks-is, w.push.ensures.items, w.if-is_err.ensures.negation)
      (entry_more c.loop-line.blocks.items w.in_ok-id.id c.args.lines.now c.loop-line.line-index w.in-Block.pages w.in-Block.id
      c.loop-line.invariant c.loop-line-test.true w.in-Block.is w.in_ok-id.ensures)
  | in_default w ↦
      rw w.blocks-is (entry_same c.loop-line.blocks.items c.args.lines.now c.loop-line.line-index c.loop-line.invariant
      c.loop-line-test.true w.in_default.not-Block)
]
