use Rattle.mig_mem.specs.Lent.{lent_bytes}
use Rattle.mig_mem.proofs.Lents.{lent_is_image}
use Rattle.mig_mem.proofs.lent.LentMemoryGuestPages.table.Goals as goal

pub returns-clause-image : goal.returns-clause-image
returns-clause-image g c = rw c.self.view_is at (lent_is_image c.self.inside.table.now (lent_bytes c.self.inside.blocks.now) c.self.invariant)
