use Rattle.std.proofs.Common.{◌≡◌, List, length}
use Rattle.mig_xbzrle.specs.Delta.{Run, span}
use Rattle.mig_xbzrle.specs.Reading.{IsFront}
use Rattle.mig_xbzrle.proofs.judge.Given as goal

-- the runs so far are lawful
abbrev pub invariant-runs : goal.invariant-runs
invariant-runs l = (runs : List Run) × IsFront l.size l.delta runs l.rest × (l.from ≡ span runs)

abbrev pub decreases-runs : goal.decreases-runs
decreases-runs l = length l.rest
