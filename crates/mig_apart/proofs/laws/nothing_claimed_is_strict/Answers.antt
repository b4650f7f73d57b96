use Rattle.mig_apart.proofs.Free.{strict_law}
use Rattle.mig_apart.proofs.laws.nothing_claimed_is_strict.Goals as goal

pub returns : goal.returns
returns c = strict_law
