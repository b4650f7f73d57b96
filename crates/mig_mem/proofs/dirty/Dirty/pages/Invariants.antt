use Rattle.std.proofs.Common.{◌-◌, length}
use Rattle.mig_mem.proofs.Walks.{HasListed}
use Rattle.mig_mem.proofs.dirty.Dirty.pages.Given as goal

abbrev pub invariant-marks : goal.invariant-marks
invariant-marks g l = HasListed l.self l.from l.places.items

abbrev pub decreases-marks : goal.decreases-marks
decreases-marks g l = length l.self.marked - length l.places.items
