use Rattle.mig_mem.proofs.Rounds.{rounds_onto}
use Rattle.mig_mem.proofs.laws.rounds_go_onto.Goals as goal

pub returns : goal.returns
returns c = rounds_onto
