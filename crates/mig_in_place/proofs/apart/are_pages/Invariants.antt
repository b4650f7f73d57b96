use Rattle.std.proofs.Common.{ℕ, ◌≡◌, ◌<◌, [], length, slice_index_or}
use Rattle.mig_in_place.proofs.apart.are_pages.Given as goal

abbrev pub invariant-loop-i : goal.invariant-loop-i
invariant-loop-i l = (k : ℕ) → k < l.i → length (slice_index_or l.contents k (record { ref_ptr = (0, 0); now = [] })).now ≡ l.page_size
