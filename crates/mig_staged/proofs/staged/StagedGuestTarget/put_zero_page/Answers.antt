use Rattle.std.proofs.Common.{ℕ, ◌≡◌, List, sym, ap, subst, ◌∙◌}
use Rattle.mig_mem.specs.RamTable.{RamTable}
use Rattle.mig_mem.specs.Image.{Image, with_page, zero_page}
use Rattle.mig_mem.specs.PlaceSet.{PlaceSet}
use Rattle.mig_staged.specs.Staged.{Staging, IsStaging, staged}
use Rattle.mig_staged.proofs.Staging.{staged_put, put_stays}
use Rattle.mig_staged.proofs.staged.StagedGuestTarget.put_zero_page.Goals as goal

pub invariant_of-self : goal.invariant_of-self
invariant_of-self g c =
    let i = c.self.inside in
    let s : Staging = record { kept = g.M.GuestTarget.image i.memory; apart = i.apart; named = i.named; is_fresh = i.is_fresh } in
    let zeros : List ℕ = zero_page i.apart.table.page_size in
    subst (λ (m : Image). IsStaging (record s { apart = m; named = c.mark.new.self })) (sym c.put_zero_page.ensures)
    (subst (λ (n : PlaceSet). IsStaging (record s { apart = with_page i.apart c.args.place zeros; named = n })) (sym c.mark.ensures.set)
    (put_stays s c.args.place zeros c.self.invariant))

pub returns-clause-image : goal.returns-clause-image
returns-clause-image g c =
    let i = c.self.inside in
    let s : Staging = record { kept = g.M.GuestTarget.image i.memory; apart = i.apart; named = i.named; is_fresh = i.is_fresh } in
    let zeros : List ℕ = zero_page i.apart.table.page_size in
    let same : zeros ≡ zero_page s.kept.table.page_size = ap (λ (t : RamTable). zero_page t.page_size) c.self.invariant.same_apart in
    ap (λ (m : Image). staged (record s { apart = m; named = c.mark.new.self })) c.put_zero_page.ensures
    ∙ ap (λ (n : PlaceSet). staged (record s { apart = with_page i.apart c.args.place zeros; named = n })) c.mark.ensures.set
    ∙ staged_put s c.args.place zeros c.self.invariant
    ∙ ap (λ (l : List ℕ). with_page (staged s) c.args.place l) same
    ∙ ap (λ (x : Staging). with_page (staged x) c.args.place (zero_page x.kept.table.page_size)) c.self.view_is
