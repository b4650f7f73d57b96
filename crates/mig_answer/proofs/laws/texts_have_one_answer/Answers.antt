use Rattle.mig_answer.proofs.OneAnswer.{one_answer_law}
use Rattle.mig_answer.proofs.Judged.{ended_law}
use Rattle.mig_answer.proofs.laws.texts_have_one_answer.Goals as goal

pub returns-clause-one : goal.returns-clause-one
returns-clause-one c = one_answer_law

pub returns-clause-ended : goal.returns-clause-ended
returns-clause-ended c = ended_law
