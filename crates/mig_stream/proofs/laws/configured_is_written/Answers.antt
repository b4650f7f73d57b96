use Rattle.mig_stream.proofs.Configured.{configured_is_written, configured_is_closed, written_is_closed}
use Rattle.mig_stream.proofs.laws.configured_is_written.Goals as goal

pub returns-clause-open_end : goal.returns-clause-open_end
returns-clause-open_end c = configured_is_written

pub returns-clause-closed_end : goal.returns-clause-closed_end
returns-clause-closed_end c = configured_is_closed

pub returns-clause-no_name : goal.returns-clause-no_name
returns-clause-no_name c = written_is_closed
