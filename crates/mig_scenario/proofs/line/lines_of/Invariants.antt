use Rattle.std.proofs.Common.{◌≡◌, ◌++◌, map, Some}
use Rattle.mig_scenario.specs.Scenario.{forms}
use Rattle.mig_scenario.specs.Seen.{seen}
use Rattle.mig_scenario.proofs.Reading.{left_forms, left_length}
use Rattle.mig_scenario.proofs.line.lines_of.Given as goal

abbrev pub invariant-lines : goal.invariant-lines
invariant-lines g l = forms l.text ≡ map Some (map seen l.lines.items) ++ left_forms l.rest

abbrev pub decreases-lines : goal.decreases-lines
decreases-lines g l = left_length l.rest
