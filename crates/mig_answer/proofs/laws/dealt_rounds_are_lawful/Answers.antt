use Rattle.mig_answer.proofs.Dealt.{dealt_rounds_are_lawful}
use Rattle.mig_answer.proofs.laws.dealt_rounds_are_lawful.Goals as goal

pub returns : goal.returns
returns c = dealt_rounds_are_lawful
