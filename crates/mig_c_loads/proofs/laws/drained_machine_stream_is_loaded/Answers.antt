use Rattle.mig_c_loads.proofs.Headline.{machine_stream_law}
use Rattle.mig_c_loads.proofs.laws.drained_machine_stream_is_loaded.Goals as goal

pub returns : goal.returns
returns c = machine_stream_law
