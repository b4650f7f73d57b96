use Rattle.mig_send.proofs.Walking.{walk_at_first}
use Rattle.mig_send.proofs.finder.first_walk.Goals as goal

pub returns-clause-walk : goal.returns-clause-walk
returns-clause-walk g c = λ limit. walk_at_first c.args.dirty.now.marked c.first_from.result c.requires.is_ascending c.first_from.ensures limit
