use Rattle.mig_mem.specs.Lent.{mut_lent_bytes}
use Rattle.mig_mem.proofs.Lents.{lent_is_image}
use Rattle.mig_mem.proofs.lent_mut.LentMemoryMutGuestTarget.table.Goals as goal

pub returns-clause-image : goal.returns-clause-image
returns-clause-image g c = rw c.self.view_is at (lent_is_image c.self.inside.table.now (mut_lent_bytes c.self.inside.blocks.now) c.self.invariant)
