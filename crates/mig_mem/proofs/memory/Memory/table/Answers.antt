use Rattle.mig_mem.proofs.Kept.{kept_image}
use Rattle.mig_mem.proofs.memory.Memory.table.Goals as goal

pub returns-clause-image : goal.returns-clause-image
returns-clause-image g c = rw c.self.view_is at (kept_image c.self.inside.table c.self.inside.blocks.items c.self.invariant)
