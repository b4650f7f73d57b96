use Rattle.mig_in_place.proofs.Turning.{NoneOpen}
use Rattle.mig_in_place.proofs.pumping.first_open.Given as goal

abbrev pub invariant-loop-number : goal.invariant-loop-number
invariant-loop-number g l = NoneOpen l.number l.load
