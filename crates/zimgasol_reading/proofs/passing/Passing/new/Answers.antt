use Rattle.std.proofs.Common.{◌≡◌, false, refl, sym, subst}
use Rattle.mig_mem.specs.Image.{Image, IsImage}
use Rattle.zimgasol_reading.specs.Passed.{HasPassed}
use Rattle.zimgasol_reading.proofs.Images.{zeros_image}
use Rattle.zimgasol_reading.proofs.PassedPages.{passed_none}
use Rattle.zimgasol_reading.proofs.passing.Passing.new.Goals as goal

pub invariant_of-result : goal.invariant_of-result
invariant_of-result g c =
    subst (λ (i : Image). IsImage i × (i.table ≡ c.args.table) × (false ≡ false → HasPassed (g.S.PageSink.holds c.args.sink) i)) (sym c.new-shadow.ensures)
    (zeros_image c.args.table, refl, λ _. passed_none (g.S.PageSink.holds c.args.sink) c.args.table c.requires)
