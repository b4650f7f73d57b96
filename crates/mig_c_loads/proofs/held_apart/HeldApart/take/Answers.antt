use Rattle.std.proofs.Common.{◌≡◌, ◌∙◌, Option, Some, sym, ap, subst}
use Rattle.std.specs.Prelude.{IfSome}
use Rattle.mig_mem.specs.RamTable.{RamTable}
use Rattle.mig_c_loads.proofs.NotedPages.{noted_after}
use Rattle.mig_c_loads.proofs.held_apart.HeldApart.take.Goals as goal

pub invariant_of-self : goal.invariant_of-self
invariant_of-self c =
    let i = c.self.inside in
    let same : i.session.load.table ≡ c.take.new.self.load.table = sym c.take.ensures.table in
    let of_table = c.self.invariant.1 in (
      c.self.invariant.0 ∙ ap (λ (t : RamTable). let some : Option RamTable = Some t in some) same,
      subst (λ (t : RamTable). IfSome c.fill.new.filled (λ f. f.table ≡ t)) same
          (noted_after i.session.load.table c.in-Some.block c.in-Some.found.bytes.now i.filled c.fill.new.filled of_table
          (c.fill.ensures i.session.load.table of_table)),
    )
