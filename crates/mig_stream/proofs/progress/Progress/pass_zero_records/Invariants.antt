use Rattle.std.proofs.Common.{◌-◌, length}
use Rattle.mig_stream.specs.Taking.{HasTakenRecords}
use Rattle.mig_stream.proofs.progress.Progress.pass_zero_records.Given as goal

abbrev pub invariant-runs : goal.invariant-runs
invariant-runs g l = HasTakenRecords l.fn.self l.near l.at l.self

abbrev pub decreases-runs : goal.decreases-runs
decreases-runs g l = length l.near - l.at
