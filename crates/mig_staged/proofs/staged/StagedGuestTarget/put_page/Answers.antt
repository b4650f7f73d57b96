use Rattle.std.proofs.Common.{sym, ap, subst, ◌∙◌}
use Rattle.mig_mem.specs.Image.{Image, with_page}
use Rattle.mig_mem.specs.PlaceSet.{PlaceSet}
use Rattle.mig_staged.specs.Staged.{Staging, IsStaging, staged}
use Rattle.mig_staged.proofs.Staging.{staged_put, put_stays}
use Rattle.mig_staged.proofs.staged.StagedGuestTarget.put_page.Goals as goal

pub invariant_of-self : goal.invariant_of-self
invariant_of-self g c =
    let i = c.self.inside in
    let s : Staging = record { kept = g.M.GuestTarget.image i.memory; apart = i.apart; named = i.named; is_fresh = i.is_fresh } in
    subst (λ (m : Image). IsStaging (record s { apart = m; named = c.mark.new.self })) (sym c.put_page.ensures)
    (subst (λ (n : PlaceSet). IsStaging (record s { apart = with_page i.apart c.args.place c.args.bytes.now; named = n })) (sym c.mark.ensures.set)
    (put_stays s c.args.place c.args.bytes.now c.self.invariant))

pub returns-clause-image : goal.returns-clause-image
returns-clause-image g c =
    let i = c.self.inside in
    let s : Staging = record { kept = g.M.GuestTarget.image i.memory; apart = i.apart; named = i.named; is_fresh = i.is_fresh } in
    ap (λ (m : Image). staged (record s { apart = m; named = c.mark.new.self })) c.put_page.ensures
    ∙ ap (λ (n : PlaceSet). staged (record s { apart = with_page i.apart c.args.place c.args.bytes.now; named = n })) c.mark.ensures.set
    ∙ staged_put s c.args.place c.args.bytes.now c.self.invariant
    ∙ ap (λ (x : Staging). with_page (staged x) c.args.place c.args.bytes.now) c.self.view_is
