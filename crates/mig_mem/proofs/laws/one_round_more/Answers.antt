use Rattle.mig_mem.proofs.Rounds.{after-push}
use Rattle.mig_mem.proofs.laws.one_round_more.Goals as goal

pub returns : goal.returns
returns c = after-push
