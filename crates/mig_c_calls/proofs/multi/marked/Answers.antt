use Rattle.std.proofs.Common.{sym, subst, arith}
use Rattle.mig_mem.specs.RamTable.{RamTable}
use Rattle.mig_mem.specs.Place.{IsPlace}
use Rattle.mig_c_calls.proofs.Places.{place_there}
use Rattle.mig_c_calls.proofs.multi.marked.Goals as goal

pub mark-requires : goal.mark-requires
mark-requires c =
    subst (λ (t : RamTable). IsPlace t c.place_of.result) (sym c.loop-named.invariant.table)
    (place_there (IsPlace c.args.table.now) c.args.places.now c.loop-named.named-index _ c.place_of.result
    (omega (arith, c.loop-named-test.true)) c.place_of.ensures c.requires)
