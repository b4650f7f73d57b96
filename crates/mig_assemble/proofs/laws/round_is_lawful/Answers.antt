use Rattle.mig_assemble.proofs.LawfulRounds.{round_is_lawful}
use Rattle.mig_assemble.proofs.laws.round_is_lawful.Goals as goal

pub returns : goal.returns
returns c = round_is_lawful
