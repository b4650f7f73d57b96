use Rattle.zimgasol_mapped.proofs.PlainLoaded.{plain_loads, written_is}
use Rattle.zimgasol_mapped.proofs.laws.plain_stream_loads_the_memory.Goals as goal

pub returns-clause-memory : goal.returns-clause-memory
returns-clause-memory c = plain_loads

pub returns-clause-written : goal.returns-clause-written
returns-clause-written c = written_is
