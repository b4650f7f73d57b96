use Rattle.std.proofs.Common.{◌≡◌, map, drop}
use Rattle.mig_scenario.specs.Scenario.{late_block}
use Rattle.mig_scenario.specs.Seen.{seen}
use Rattle.mig_scenario.proofs.Turns.{late_from}
use Rattle.mig_scenario.proofs.judging.late_block.Given as goal

abbrev pub invariant-loop-i : goal.invariant-loop-i
invariant-loop-i l = late_from l.has_step l.i (map seen (drop l.i l.lines)) ≡ late_block (map seen l.lines)
