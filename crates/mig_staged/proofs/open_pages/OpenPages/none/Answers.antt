use Rattle.std.proofs.Common.{◌≡◌, ◌∙◌, [], false, sym, ap}
use Rattle.mig_mem.specs.RamTable.{RamTable}
use Rattle.mig_mem.specs.Image.{Image, zero_image}
use Rattle.mig_staged.specs.Staged.{Staging}
use Rattle.mig_staged.proofs.Staging.{closed_staging}
use Rattle.mig_staged.proofs.open_pages.OpenPages.none.Goals as goal

pub invariant_of-result : goal.invariant_of-result
invariant_of-result g c =
    let s : Staging = record { kept = c.in_ok-apart.apart; apart = c.in_ok-apart.apart; named = c.in_ok-named.named; is_fresh = false } in
    let same : c.args.table.now ≡ s.kept.table = sym (ap (λ (m : Image). m.table) c.in_ok-apart.ensures) in
    (closed_staging s (c.in_ok-apart.ensures ∙ ap (λ (t : RamTable). zero_image t) same)
    (c.in_ok-named.ensures ∙ ap (λ (t : RamTable). record { table = t; marked = [] }) same)
    (λ yes. absurd cc)).are_zeros
