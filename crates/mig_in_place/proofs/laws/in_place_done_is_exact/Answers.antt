use Rattle.mig_in_place.proofs.Exact.{exact_law}
use Rattle.mig_in_place.proofs.laws.in_place_done_is_exact.Goals as goal

pub returns : goal.returns
returns c = exact_law
