use Rattle.std.proofs.Common.{ℕ, ◌≡◌, ◌<◌, false}
use Rattle.mig_mem.specs.Place.{place_at}
use Rattle.mig_mem.specs.Image.{differs}
use Rattle.mig_mem.proofs.difference.first_page.Given as goal

abbrev pub invariant-loop-page : goal.invariant-loop-page
invariant-loop-page g l = (q : ℕ) → q < l.page → differs l.a l.b (place_at l.block q) ≡ false
