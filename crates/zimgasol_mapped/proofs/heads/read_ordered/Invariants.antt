use Rattle.std.proofs.Common.{◌≡◌, ℕ, List, Some}
use Rattle.zimgasol_mapped.proofs.Indexed.{IsSoFar}
use Rattle.zimgasol_mapped.proofs.heads.read_ordered.Given as goal

abbrev pub invariant-loop : goal.invariant-loop
invariant-loop g l = record {
  same : g.F.PlacedFile.file_bytes l.file ≡ g.F.PlacedFile.file_bytes l.fn.file;
  size : l.index.given.page_size ≡ l.fn.list.page_size;
  so_far : (all : List ℕ) → g.F.PlacedFile.file_bytes l.fn.file ≡ Some all
      → IsSoFar all (record { page_size = l.fn.list.page_size; order = l.fn.order }) l.fn.list.place l.fn.list.total l.index;
}
