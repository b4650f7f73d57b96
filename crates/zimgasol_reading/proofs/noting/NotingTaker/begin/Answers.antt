use Rattle.std.proofs.Common.{List, [], ap, ◌∙◌}
use Rattle.mig_mem.specs.declared.place.Place.{Place}
use Rattle.mig_mem.specs.RamTable.{RamTable}
use Rattle.zimgasol_reading.proofs.Counting.{named_none}
use Rattle.zimgasol_reading.proofs.noting.NotingTaker.begin.Goals as goal

pub returns-clause-ok : goal.returns-clause-ok
returns-clause-ok g c = λ had.
    let empty : List Place = [] in (
      named_none c.args.table.now c.in_ok-new.field-0
          (c.in_ok-new.ensures.none ∙ ap (λ (t : RamTable). record { table = t; marked = empty }) c.in_ok-try_copy.ensures),
      c.in_ok-begin.ensures,
    )
