use Rattle.std.proofs.Common.{subst}
use Rattle.mig_mem.specs.Image.{IsImage}
use Rattle.mig_staged.specs.Staged.{Staging, staged}
use Rattle.mig_staged.proofs.Staging.{staged_image}
use Rattle.mig_staged.proofs.staged.StagedGuestTarget.table.Goals as goal

pub returns-clause-image : goal.returns-clause-image
returns-clause-image g c =
    let i = c.self.inside in
    let s : Staging = record { kept = g.M.GuestTarget.image i.memory; apart = i.apart; named = i.named; is_fresh = i.is_fresh } in
    subst (λ (x : Staging). IsImage (staged x)) c.self.view_is
    (staged_image s c.self.invariant c.table.ensures.image c.table-apart.ensures.image)
