-- The pages of a round in one list, as `ThreadedTarget::put_pages` takes them.
use Rattle.std.specs.Prelude.{ℕ, ◌≡◌, List, ◌++◌, map, All}
use Rattle.mig_mem.specs.declared.putting.RoundPage.{RoundPage}
use Rattle.mig_mem.specs.Image.{Page}
use Rattle.mig_mem.specs.Puts.{round_page, HasPageSize}

-- pages were added to a list of whole pages, which has these at its end then
pub record Adds (size : ℕ) (old new : List RoundPage) (pages : List Page) : Type 0 where
  pub stands_for : map (round_page size) new ≡ map (round_page size) old ++ pages
  pub has_sizes : All (HasPageSize size) old → All (HasPageSize size) new
