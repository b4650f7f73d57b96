use Rattle.std.proofs.Common.{◌≡◌, [], false, sym, ap, subst, ◌∙◌}
use Rattle.std.proofs.lemmas.List.{nil_from_length}
use Rattle.mig_mem.specs.RamTable.{RamTable}
use Rattle.mig_mem.specs.Image.{Image, IsImage, zero_image}
use Rattle.mig_mem.specs.PlaceSet.{PlaceSet}
use Rattle.mig_staged.specs.Staged.{Staging, staged}
use Rattle.mig_staged.proofs.Staging.{none_staged, fresh_shows, closed_staging}
use Rattle.mig_staged.proofs.staged.«Staged+Memory+A+A».keep_own.Goals as goal

pub returns-then-count-eq0-clause-kept : goal.returns-then-count-eq0-clause-kept
returns-then-count-eq0-clause-kept g c =
    let i = c.self.inside in
    let s : Staging = record { kept = i.memory; apart = i.apart; named = i.named; is_fresh = i.is_fresh } in
    subst (λ (x : Staging). x.kept ≡ staged x) c.self.view_is
    (sym (none_staged s c.table-kept.ensures.image (nil_from_length i.named.marked (sym c.count.ensures.value ∙ c.if-count-eq0.true))))

pub returns-then-count-eq0-clause-image : goal.returns-then-count-eq0-clause-image
returns-then-count-eq0-clause-image g c =
    let i = c.self.inside in
    let s : Staging = record { kept = i.memory; apart = i.apart; named = i.named; is_fresh = i.is_fresh } in
    subst (λ (x : Staging). staged x ≡ x.kept) c.self.view_is
    (none_staged s c.table-kept.ensures.image (nil_from_length i.named.marked (sym c.count.ensures.value ∙ c.if-count-eq0.true)))

pub invariant_of-self : goal.invariant_of-self
invariant_of-self g c =
    let i = c.self.inside in
    let s : Staging = record { kept = c.swap.new.x; apart = c.swap.new.y; named = c.clear.new.self; is_fresh = false } in
    let same : i.memory.table ≡ s.kept.table = sym (ap (λ (m : Image). m.table) c.swap.ensures.x_after ∙ c.self.invariant.same_apart) in
    closed_staging s (c.swap.ensures.y_after ∙ c.self.invariant.fresh c.if-not-self.false ∙ ap (λ (t : RamTable). zero_image t) same)
    (c.clear.ensures ∙ ap (λ (t : RamTable). record { table = t; marked = [] })
    (c.self.invariant.are_zeros.same_table ∙ c.self.invariant.same_apart ∙ same))
    (λ yes. absurd cc)

pub returns-clause-kept : goal.returns-clause-kept
returns-clause-kept g c =
    let i = c.self.inside in
    let s : Staging = record { kept = i.memory; apart = i.apart; named = i.named; is_fresh = i.is_fresh } in
    c.swap.ensures.x_after ∙ sym (fresh_shows s c.self.invariant (c.self.invariant.fresh c.if-not-self.false) c.table-apart.ensures.image)
    ∙ ap (λ (x : Staging). staged x) c.self.view_is

pub returns-clause-image : goal.returns-clause-image
returns-clause-image g c =
    let s : Staging = record { kept = c.swap.new.x; apart = c.swap.new.y; named = c.clear.new.self; is_fresh = false } in
    none_staged s (subst IsImage (sym c.swap.ensures.x_after) c.table-apart.ensures.image) (ap (λ (n : PlaceSet). n.marked) c.clear.ensures)
