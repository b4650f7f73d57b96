use Rattle.std.proofs.Common.{◌≡◌, ℕ, ◌+◌, ◌*◌, List, ◌++◌, length}
use Rattle.mig_stream.specs.Reading.{Front}
use Rattle.mig_stream.specs.Kept.{bytes_of}
use Rattle.mig_stream.proofs.Fronts.{work}
use Rattle.mig_stream.proofs.progress.Progress.run_on.Given as goal

abbrev pub invariant-items : goal.invariant-items
invariant-items g l = (front : List ℕ) × (bytes_of l.text ≡ front ++ bytes_of l.rest) × Front l.fn.self front l.self

abbrev pub decreases-items : goal.decreases-items
decreases-items g l = 2 * length (bytes_of l.rest) + work l.self.due
