use Rattle.std.proofs.Common.{◌≡◌, ◌≤◌, length}
use Rattle.zimgasol_mapped.proofs.placed.read_full.Given as goal

abbrev pub invariant-reads : goal.invariant-reads
invariant-reads g l = record {
  within : l.len ≤ length l.bytes;
  same : length l.bytes ≡ length l.fn.bytes;
}
