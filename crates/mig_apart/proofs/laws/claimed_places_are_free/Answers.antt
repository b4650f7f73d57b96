use Rattle.mig_apart.proofs.Free.{free_law}
use Rattle.mig_apart.proofs.laws.claimed_places_are_free.Goals as goal

pub returns : goal.returns
returns c = free_law
