use Rattle.mig_marking.proofs.Zeros.{zeros_at_first}
use Rattle.std.proofs.Common.{[], ap, ◌∙◌}
use Rattle.mig_mem.specs.RamTable.{RamTable}
use Rattle.mig_marking.proofs.fresh.Fresh.new.Goals as goal

pub invariant_of-result : goal.invariant_of-result
invariant_of-result g c =
    zeros_at_first (g.M.GuestTarget.image c.args.memory) c.in-Ok.written c.requires.zeros
    (c.in-Ok.ensures ∙ ap (λ (t : RamTable). record { table = t; marked = [] }) c.table.ensures.value)
