use Rattle.mig_apart.proofs.Free.{to_free_law}
use Rattle.mig_apart.proofs.laws.strict_is_free.Goals as goal

pub returns : goal.returns
returns c = to_free_law
