use Rattle.std.proofs.Common.{sym, ◌∙◌}
use Rattle.mig_single_load.proofs.in_place.InPlaceLoader.new.Goals as goal

pub returns-clause-loads : goal.returns-clause-loads
returns-clause-loads g c = c.in-Ok.ensures.loads (g.M.GuestTarget.image c.args.memory) c.table.ensures.image (sym c.table.ensures.value)

pub invariant_of-result : goal.invariant_of-result
invariant_of-result g c = sym c.table.ensures.value ∙ sym c.in-Ok.ensures.table
