use Rattle.std.proofs.Common.{◌≡◌, ◌<◌, false}
use Rattle.mig_mem.specs.declared.place.Place.{Place}
use Rattle.mig_mem.specs.Place.{IsPlace}
use Rattle.mig_mem.specs.Image.{differs}
use Rattle.mig_mem.proofs.difference.first_difference.Given as goal

abbrev pub invariant-loop-block : goal.invariant-loop-block
invariant-loop-block g l = (q : Place) → IsPlace l.a.table q → q.block < l.block → differs l.a l.b q ≡ false
