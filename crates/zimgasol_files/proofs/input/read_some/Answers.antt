use Rattle.std.proofs.Common.{refl}
use Rattle.zimgasol_files.proofs.Inputs.{keeps_same}
use Rattle.zimgasol_files.proofs.input.read_some.Goals as goal

pub tries-init : goal.tries-init
tries-init g c = record { same = refl; kept = keeps_same (g.R.Read.remaining c.args.input.now) }
