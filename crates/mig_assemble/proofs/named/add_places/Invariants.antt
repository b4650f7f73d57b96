use Rattle.mig_assemble.proofs.AddingPlaces.{HasAdded}
use Rattle.mig_assemble.proofs.named.add_places.Given as goal

abbrev pub invariant-loop : goal.invariant-loop
invariant-loop g l = HasAdded l.more l.fn.named l.named l.from l.counter
