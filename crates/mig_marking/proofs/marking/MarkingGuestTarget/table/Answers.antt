use Rattle.std.proofs.Common.{subst}
use Rattle.mig_mem.specs.Image.{IsImage}
use Rattle.mig_marking.specs.Marking.{Marked, seen}
use Rattle.mig_marking.proofs.Marks.{seen_image}
use Rattle.mig_marking.proofs.marking.MarkingGuestTarget.table.Goals as goal

pub returns-clause-image : goal.returns-clause-image
returns-clause-image g c =
    subst (λ (m : Marked). IsImage (seen m)) c.self.view_is
    (seen_image (record { memory = g.M.GuestTarget.image c.self.inside.memory; written = c.self.inside.written }) c.table.ensures.image)
