use Rattle.mig_mem.specs.Lent.{lent_bytes}
use Rattle.mig_c_calls.proofs.Copies.{copied_is_image}
use Rattle.mig_c_calls.proofs.copied.CopiedPagesGuestPages.table.Goals as goal

pub returns-clause-image : goal.returns-clause-image
returns-clause-image c =
    rw c.self.view_is at (copied_is_image c.self.inside.table.now c.self.inside.pages.now (lent_bytes c.self.inside.contents.now) c.self.invariant)
