use Rattle.std.proofs.Common.{◌≡◌, map, drop}
use Rattle.mig_scenario.specs.Scenario.{unsent}
use Rattle.mig_scenario.specs.Seen.{seen}
use Rattle.mig_scenario.proofs.Turns.{unsent_from}
use Rattle.mig_scenario.proofs.judging.unsent.Given as goal

abbrev pub invariant-loop-i : goal.invariant-loop-i
invariant-loop-i l = unsent_from l.first l.i (map seen (drop l.i l.lines)) ≡ unsent (map seen l.lines)
