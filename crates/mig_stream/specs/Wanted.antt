-- The next bytes of a paused stream.
use Rattle.std.specs.Prelude.{◌<◌, ℕ, List, [], ◌∷◌, ◌++◌, length, Option, None, Some}
use Rattle.mig_mem.specs.declared.place.Place.{Place}
use Rattle.mig_stream.specs.declared.item.Filling.TheVariants.{Normal}
use Rattle.mig_stream.specs.declared.item.Due.{Due}
use Rattle.mig_stream.specs.declared.item.Due.TheVariants.{Content}
use Rattle.mig_stream.specs.Reader.{IsUnfinished}
use Rattle.mig_stream.specs.Giving.{Paused}

-- the page whose content is next
abbrev pub page_in : Due → Option Place
page_in (Content Normal place) = Some place
page_in other = None

-- The page whose content is next, from its first byte on.
abbrev pub page_due : Paused → Option Place
page_due p = page_due_after p.pending p.progress.due
  where
    page_due_after : List ℕ → Due → Option Place
    page_due_after [] due = page_in due
    page_due_after (byte ∷ bytes) due = None

-- At most n bytes may be read before more is known. That is at least one, and with fewer the next
-- item isn't complete.
pub record AreWanted (p : Paused) (n : ℕ) : Type 0 where
  pub is_some : 0 < n
  pub are_wanted : (more : List ℕ) → length more < n → IsUnfinished p.progress (p.pending ++ more)
