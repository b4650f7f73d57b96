use Rattle.std.proofs.Common.{◌∙◌, [], false, ap}
use Rattle.mig_mem.specs.RamTable.{RamTable}
use Rattle.mig_mem.specs.Image.{zero_image}
use Rattle.mig_mem.specs.PlaceSet.{PlaceSet}
use Rattle.mig_staged.specs.Staged.{Staging}
use Rattle.mig_staged.proofs.Staging.{none_staged, closed_staging}
use Rattle.mig_staged.proofs.staged.Staged.new.Goals as goal

pub invariant_of-result : goal.invariant_of-result
invariant_of-result g c =
    let s : Staging = record { kept = g.M.GuestTarget.image c.args.memory; apart = c.in-Ok.apart; named = c.in-Ok-none.named; is_fresh = false } in
    closed_staging s (c.in-Ok.ensures ∙ ap (λ (t : RamTable). zero_image t) c.table.ensures.value)
    (c.in-Ok-none.ensures ∙ ap (λ (t : RamTable). record { table = t; marked = [] }) c.table-2.ensures.value)
    (λ yes. absurd cc)

pub returns-clause-image : goal.returns-clause-image
returns-clause-image g c =
    none_staged (record { kept = g.M.GuestTarget.image c.args.memory; apart = c.in-Ok.apart; named = c.in-Ok-none.named; is_fresh = false })
    c.table.ensures.image (ap (λ (s : PlaceSet). s.marked) c.in-Ok-none.ensures)
