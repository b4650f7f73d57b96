use Rattle.mig_single_load.proofs.Feeding.{none_yet, loads_nothing, nothing_some}
use Rattle.mig_single_load.proofs.loader.SingleLoader.new.Goals as goal

pub invariant_of-result : goal.invariant_of-result
invariant_of-result g c = nothing_some c.args.settings c.new_with.result c.requires.page_size c.new_with.ensures.stands

pub returns-clause-loads : goal.returns-clause-loads
returns-clause-loads g c = loads_nothing c.args.settings c.new_with.result c.requires.page_size c.new_with.ensures.stands

pub returns-clause-sections : goal.returns-clause-sections
returns-clause-sections g c = none_yet c.args.settings c.new_with.result c.requires.page_size
