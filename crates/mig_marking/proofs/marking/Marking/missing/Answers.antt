use Rattle.std.proofs.Common.{◌≡◌, not, length, ap, ◌∙◌}
use Rattle.mig_mem.specs.RamTable.{RamTable}
use Rattle.mig_mem.specs.Place.{has_place}
use Rattle.mig_mem.specs.PlaceSet.{places_where}
use Rattle.mig_marking.specs.Marking.{Marked, missing}
use Rattle.mig_marking.proofs.marking.Marking.missing.Goals as goal

pub returns-clause-value : goal.returns-clause-value
returns-clause-value g c =
    let m : Marked = record { memory = g.M.GuestTarget.image c.self.inside.memory; written = c.self.inside.written } in
    let count : c.lacking.result ≡ missing m =
    c.lacking.ensures.value ∙ ap (λ (t : RamTable). length (places_where t (λ p. not (has_place m.written.marked p)))) c.self.invariant.same_table in
    count ∙ ap (λ (x : Marked). missing x) c.self.view_is
