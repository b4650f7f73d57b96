use Rattle.mig_c_loads.proofs.Headline.{sections_law}
use Rattle.mig_c_loads.proofs.laws.drained_is_loaded_by_sections.Goals as goal

pub returns : goal.returns
returns c = sections_law
