use Rattle.std.proofs.Common.{refl}
use Rattle.mig_assemble.proofs.Arriving.{none_come}
use Rattle.mig_assemble.proofs.arrivals.Arrivals.new.Goals as goal

pub returns : goal.returns
returns g c = none_come c.args.table.now _ c.new.ensures.items refl refl c.in_ok-none.ensures
