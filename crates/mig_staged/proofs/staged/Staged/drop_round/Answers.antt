use Rattle.std.proofs.Common.{◌∙◌, [], ap}
use Rattle.mig_mem.specs.RamTable.{RamTable}
use Rattle.mig_mem.specs.Image.{zero_image}
use Rattle.mig_mem.specs.PlaceSet.{PlaceSet}
use Rattle.mig_staged.specs.Staged.{Staging}
use Rattle.mig_staged.proofs.Staging.{none_staged, closed_staging}
use Rattle.mig_staged.proofs.staged.Staged.drop_round.Goals as goal

pub clear_round-requires : goal.clear_round-requires
clear_round-requires g c = c.self.invariant.are_zeros

pub invariant_of-self : goal.invariant_of-self
invariant_of-self g c =
    let i = c.self.inside in
    let r = c.clear_round.new in
    let s : Staging = record { kept = g.M.GuestTarget.image i.memory; apart = r.apart; named = r.named; is_fresh = i.is_fresh } in
    let same = c.self.invariant.same_apart in
    closed_staging s (c.clear_round.ensures.apart ∙ ap (λ (t : RamTable). zero_image t) same)
    (c.clear_round.ensures.named ∙ ap (λ (t : RamTable). record { table = t; marked = [] }) (c.self.invariant.are_zeros.same_table ∙ same))
    c.self.invariant.fresh

pub returns-clause-image : goal.returns-clause-image
returns-clause-image g c =
    let i = c.self.inside in
    let r = c.clear_round.new in
    none_staged (record { kept = g.M.GuestTarget.image i.memory; apart = r.apart; named = r.named; is_fresh = i.is_fresh })
    c.table-table.ensures.image (ap (λ (s : PlaceSet). s.marked) c.clear_round.ensures.named)
