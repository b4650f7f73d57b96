use Rattle.std.proofs.Common.{◌≡◌, ◌-◌, length}
use Rattle.mig_stream.specs.Taking.{HasTakenRecords}
use Rattle.mig_stream.proofs.progress.Progress.continued_zeros.Given as goal

abbrev pub invariant-records : goal.invariant-records
invariant-records g l = HasTakenRecords l.fn.self l.bytes l.at l.self × (l.self.named ≡ l.fn.self.named)

abbrev pub decreases-records : goal.decreases-records
decreases-records g l = length l.bytes - l.at
