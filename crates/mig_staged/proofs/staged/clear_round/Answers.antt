use Rattle.std.proofs.Common.{◌≡◌, ◌∙◌, List, [], sym, ap}
use Rattle.std.proofs.lemmas.List.{nil_from_length}
use Rattle.mig_mem.specs.declared.place.Place.{Place}
use Rattle.mig_staged.proofs.Staging.{zeros_apart}
use Rattle.mig_staged.proofs.staged.clear_round.Goals as goal

pub returns-then-count-eq0-clause-apart : goal.returns-then-count-eq0-clause-apart
returns-then-count-eq0-clause-apart g c =
    zeros_apart c.args.apart.now c.args.named.now c.requires c.table-table.ensures.image
    (nil_from_length c.args.named.now.marked (sym c.count.ensures.value ∙ c.if-count-eq0.true))

pub returns-then-count-eq0-clause-named : goal.returns-then-count-eq0-clause-named
returns-then-count-eq0-clause-named g c =
    let none : c.args.named.now.marked ≡ [] = nil_from_length c.args.named.now.marked (sym c.count.ensures.value ∙ c.if-count-eq0.true) in
    ap (λ (ps : List Place). record c.args.named.now { marked = ps }) none
