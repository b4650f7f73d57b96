use Rattle.mig_c_loads.proofs.NotedPages.{noted_law}
use Rattle.mig_c_loads.proofs.laws.pages_read_are_noted.Goals as goal

pub returns : goal.returns
returns c = noted_law
