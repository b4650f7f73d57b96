use Rattle.std.proofs.Common.{◌≡◌, ◌≤◌, length, take}
use Rattle.std.specs.Io.KnownBytes.{Consumes}
use Rattle.zimgasol_files.proofs.input.read_piece.Given as goal

abbrev pub invariant-reads : goal.invariant-reads
invariant-reads g l = record {
  within : l.len ≤ length l.buffer;
  same : length l.buffer ≡ length l.fn.buffer;
  consumed : Consumes (g.R.Read.remaining l.fn.input) (g.R.Read.remaining l.input) (take l.len l.buffer);
}
