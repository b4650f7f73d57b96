use Rattle.std.proofs.Common.{◌≡◌, [], true, sym, ap, ◌∙◌}
use Rattle.mig_mem.specs.RamTable.{RamTable}
use Rattle.mig_mem.specs.Image.{Image, zero_image}
use Rattle.mig_mem.specs.PlaceSet.{PlaceSet}
use Rattle.mig_staged.specs.Staged.{Staging}
use Rattle.mig_staged.proofs.Staging.{none_staged, closed_staging}
use Rattle.mig_staged.proofs.staged.«Staged+Memory+A+A».zeroed.Goals as goal

pub invariant_of-result : goal.invariant_of-result
invariant_of-result g c =
    let s : Staging = record { kept = c.in_ok-memory.memory; apart = c.in_ok-apart.apart; named = c.in_ok-named.named; is_fresh = true } in
    let same : c.args.table.now ≡ s.kept.table = sym (ap (λ (m : Image). m.table) c.in_ok-memory.ensures) in
    closed_staging s (c.in_ok-apart.ensures ∙ ap (λ (t : RamTable). zero_image t) same)
    (c.in_ok-named.ensures ∙ ap (λ (t : RamTable). record { table = t; marked = [] }) same)
    (λ _. c.in_ok-memory.ensures ∙ ap (λ (t : RamTable). zero_image t) same)

pub returns-clause-image : goal.returns-clause-image
returns-clause-image g c =
    let s : Staging = record { kept = c.in_ok-memory.memory; apart = c.in_ok-apart.apart; named = c.in_ok-named.named; is_fresh = true } in
    none_staged s c.table-table.ensures.image (ap (λ (n : PlaceSet). n.marked) c.in_ok-named.ensures)
