use Rattle.mig_xbzrle.proofs.Runs.{run_takes, run_again}
use Rattle.mig_xbzrle.proofs.laws.lawful_runs_are_read.Goals as goal

pub returns : goal.returns
returns c len room bytes r more = (run_takes len room bytes (r, more), run_again len room bytes r more)
