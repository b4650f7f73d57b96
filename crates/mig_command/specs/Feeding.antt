-- Feeding one source doesn't change the counts of the others.
use Rattle.std.specs.Prelude.{ℕ, ◌≡◌, ◌≢◌, length, get_or}
use Rattle.mig_sources.specs.declared.source.Source.{Source}
use Rattle.mig_sources.specs.declared.source.Source.TheVariants as source
use Rattle.mig_sources.specs.Sources.{Counts, no_count}

-- the number of channels is the same, and so is the count of each source but this one
pub record OthersStay (from : Source) (old new : Counts) : Type 0 where
  pub same_length : length new.channels ≡ length old.channels
  pub same_others : (j : ℕ) → source.Channel j ≢ from → get_or new.channels j no_count ≡ get_or old.channels j no_count
