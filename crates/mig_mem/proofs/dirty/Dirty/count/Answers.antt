use Rattle.mig_mem.proofs.Sets.{where_set, marks_at}
use Rattle.mig_mem.proofs.dirty.Dirty.count.Goals as goal

pub returns-clause-set : goal.returns-clause-set
returns-clause-set g c = rw c.self.view_is at (where_set c.self.inside.table (marks_at c.self.inside.words.items) c.self.invariant.is_table)
