use Rattle.std.proofs.Common.{ℕ, ◌<◌}
use Rattle.mig_mem.specs.Place.{IsPlace}
use Rattle.mig_stream.specs.Round.{record_at}
use Rattle.mig_assemble.proofs.target.fits.Given as goal

abbrev pub invariant-loop-i : goal.invariant-loop-i
invariant-loop-i g l = (k : ℕ) → k < l.i → IsPlace l.table (record_at l.round.records k).place
