use Rattle.mig_c_mapped.proofs.Fronts.{none_found}
use Rattle.mig_c_mapped.proofs.opening.found.Goals as goal

pub returns-clause-none : goal.returns-clause-none
returns-clause-none c = none_found c.args.bytes.now c.front_in.result c.front_in.ensures.all
