use Rattle.mig_assemble.proofs.Arriving.{arrivals_make}
use Rattle.mig_assemble.proofs.arrivals.arrivals_make_the_round.Goals as goal

pub returns : goal.returns
returns c = arrivals_make
