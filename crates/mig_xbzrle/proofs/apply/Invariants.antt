use Rattle.std.proofs.Common.{◌≡◌, List, length}
use Rattle.mig_xbzrle.specs.Delta.{Run, span, IsPageAfter}
use Rattle.mig_xbzrle.specs.Reading.{IsFront}
use Rattle.mig_xbzrle.proofs.apply.Given as goal

-- the page is the one after the runs so far
abbrev pub invariant-runs : goal.invariant-runs
invariant-runs l = (runs : List Run) × IsFront (length l.page) l.delta runs l.rest × (l.from ≡ span runs) × IsPageAfter l.fn.page runs l.page

abbrev pub decreases-runs : goal.decreases-runs
decreases-runs l = length l.rest
