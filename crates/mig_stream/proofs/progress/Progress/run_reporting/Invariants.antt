use Rattle.std.proofs.Common.{◌+◌, ◌*◌, length}
use Rattle.mig_stream.specs.Kept.{bytes_of}
use Rattle.mig_stream.specs.Report.{ReportsTo, KeepsItems}
use Rattle.mig_stream.proofs.Fronts.{work}
use Rattle.mig_stream.proofs.progress.Progress.run_reporting.Given as goal

abbrev pub invariant-items : goal.invariant-items
invariant-items g l = ReportsTo l.fn.self (bytes_of l.text) (bytes_of l.rest) l.self l.fn.report l.report × KeepsItems l.fn.report l.report

abbrev pub decreases-items : goal.decreases-items
decreases-items g l = 2 * length (bytes_of l.rest) + work l.self.due
