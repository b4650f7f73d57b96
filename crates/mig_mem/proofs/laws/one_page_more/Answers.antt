use Rattle.mig_mem.proofs.Rounds.{after-one}
use Rattle.mig_mem.proofs.laws.one_page_more.Goals as goal

pub returns : goal.returns
returns c = after-one
