use Rattle.std.proofs.Common.{subst}
use Rattle.zimgasol_files.specs.ReadOn.{IsOldLeft}
use Rattle.zimgasol_files.proofs.Readings.{old_read, old_none}
use Rattle.zimgasol_files.proofs.pages.read_old.Goals as goal

pub returns-in_default-clause-read : goal.returns-in_default-clause-read
returns-in_default-clause-read g c = λ old left.
    old_none (g.F.Read.remaining) c.args.before.now c.args.wanted c.args.buffer.now old c.in_default.is left

pub returns-clause-read : goal.returns-clause-read
returns-clause-read g c = λ old left.
    old_read (g.F.Read.remaining) c.in-Some.file c.read_wanted.new.file c.args.wanted c.read_wanted.new.buffer old c.in_ok-read_wanted.ensures.read
    (subst (λ o. IsOldLeft (g.F.Read.remaining) o old) c.in-Some.is left)
