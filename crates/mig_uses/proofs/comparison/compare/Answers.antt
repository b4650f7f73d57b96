use Rattle.std.proofs.Common.{◌≡◌, sym, ◌∙◌}
use Rattle.mig_uses.proofs.Comparing.{same_from_none}
use Rattle.mig_uses.proofs.comparison.compare.Goals as goal

pub returns-in-None : goal.returns-in-None
returns-in-None g c =
    let same : c.args.here.now.table ≡ c.args.there.now.table = sym c.table.ensures.value ∙ (c.same.ensures.0 c.if-not-same.false ∙ c.table-2.ensures.value) in
    same_from_none c.args.here.now c.args.there.now c.table.ensures.image c.table-2.ensures.image same (sym c.first_difference.ensures ∙ c.in-None.is)
