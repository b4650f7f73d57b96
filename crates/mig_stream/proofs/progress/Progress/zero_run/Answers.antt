use Rattle.mig_stream.proofs.ZeroRecords.{records_none}
use Rattle.mig_stream.proofs.progress.Progress.zero_run.Goals as goal

pub returns-then-bytes-lt-HEAD_LEN-clause-ok : goal.returns-then-bytes-lt-HEAD_LEN-clause-ok
returns-then-bytes-lt-HEAD_LEN-clause-ok g c = records_none c.args.self.now c.args.bytes.now c.requires

pub returns-in_default-clause-ok : goal.returns-in_default-clause-ok
returns-in_default-clause-ok g c = records_none c.args.self.now c.args.bytes.now c.requires
