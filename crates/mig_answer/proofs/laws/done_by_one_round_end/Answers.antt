use Rattle.mig_answer.proofs.OneRoundEnd.{one_round_end_law}
use Rattle.mig_answer.proofs.laws.done_by_one_round_end.Goals as goal

pub returns : goal.returns
returns c = one_round_end_law
