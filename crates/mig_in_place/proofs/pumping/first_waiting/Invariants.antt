use Rattle.mig_in_place.proofs.Turning.{NoneWaits}
use Rattle.mig_in_place.proofs.pumping.first_waiting.Given as goal

abbrev pub invariant-loop-number : goal.invariant-loop-number
invariant-loop-number g l = NoneWaits l.number l.sources l.load
