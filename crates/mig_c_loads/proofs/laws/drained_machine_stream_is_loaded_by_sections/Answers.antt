use Rattle.mig_c_loads.proofs.Headline.{machine_sections_law}
use Rattle.mig_c_loads.proofs.laws.drained_machine_stream_is_loaded_by_sections.Goals as goal

pub returns : goal.returns
returns c = machine_sections_law
