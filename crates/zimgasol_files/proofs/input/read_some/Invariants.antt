use Rattle.std.proofs.Common.{◌≡◌, length}
use Rattle.std.specs.Io.KnownBytes.{Keeps}
use Rattle.zimgasol_files.proofs.input.read_some.Given as goal

abbrev pub invariant-tries : goal.invariant-tries
invariant-tries g l = record {
  same : length l.buffer ≡ length l.fn.buffer;
  kept : Keeps (g.R.Read.remaining l.fn.input) (g.R.Read.remaining l.input);
}
