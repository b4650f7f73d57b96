use Rattle.std.proofs.Common.{◌≡◌, ℕ, List, Some}
use Rattle.zimgasol_mapped.specs.Placed.{IsPartAt}
use Rattle.zimgasol_mapped.proofs.heads.read_head.Given as goal

abbrev pub invariant-loop : goal.invariant-loop
invariant-loop g l = record {
  same : g.F.PlacedFile.file_bytes l.file ≡ g.F.PlacedFile.file_bytes l.fn.file;
  index : l.index ≡ l.fn.index;
  place : l.place ≡ l.fn.index.place;
  part : (all : List ℕ) → g.F.PlacedFile.file_bytes l.fn.file ≡ Some all → IsPartAt all l.fn.index.place l.bytes.items;
}
