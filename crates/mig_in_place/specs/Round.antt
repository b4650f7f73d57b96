-- The values kept of the current round: numbers and places, without the pages' contents.
use Rattle.std.specs.Prelude.{◌≡◌, true, ◌++◌, ◌∷◌, [], Bool, List}
use Rattle.std.specs.List.{list_any}
use Rattle.std.specs.Option.{is_some}
use Rattle.mig_mem.specs.RamTable.{RamTable}
use Rattle.mig_packet.specs.Packet.{Fields}
use Rattle.mig_assemble.specs.declared.places.Pages.{Pages}
use Rattle.mig_assemble.specs.declared.places.Pages.TheVariants as pages
use Rattle.mig_assemble.specs.Judging.{place_fault}
use Rattle.mig_assemble.specs.Arrivals.{Arrival, packets_in, RoundSoFar, HasCome}

pub record KeptRound : Type 0 where
  pub arrivals : RoundSoFar
  -- whether the pages of a packet are misplaced
  pub has_misplaced : Bool

-- after it is known where the pages of a packet are
abbrev pub with_pages : Pages → KeptRound → KeptRound
with_pages (pages.Misplaced fault) r = record r { has_misplaced = true }
with_pages pages.Nowhere r = r
with_pages (pages.In b) r = r

abbrev pub any_misplaced : RamTable → List Fields → Bool
any_misplaced table packets = list_any (λ packet. is_some (place_fault table packet)) packets

-- The kept values represent a list of arrivals, of a round of this table.
pub record Keeps (table : RamTable) (came : List Arrival) (r : KeptRound) : Type 0 where
  pub has_come : HasCome table came r.arrivals
  pub has_misplaced : r.has_misplaced ≡ any_misplaced table (packets_in came)

-- this arrival was added, after those before
abbrev pub AlsoKeeps : Arrival → KeptRound → KeptRound → Type 0
AlsoKeeps more old new = (table : RamTable) (came : List Arrival) → Keeps table came old → Keeps table (came ++ more ∷ []) new

abbrev pub KeepsSame : KeptRound → KeptRound → Type 0
KeepsSame old new = (table : RamTable) (came : List Arrival) → Keeps table came old → Keeps table came new

-- it represents some list of arrivals
abbrev pub KeepsSome : RamTable → KeptRound → Type 0
KeepsSome table r = (came : List Arrival) × Keeps table came r
