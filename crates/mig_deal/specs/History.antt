-- The history of a deal's draws between any two steps, as it is read from the word and the seats'
-- numbers.
use Rattle.std.specs.Prelude.{◌≡◌, ℕ, ◌+◌, ◌<◌, ◌≤◌, List, flat_map}
use mathlib.Core.Option.{some}
use lib.ListN.{get_elem?}
use Rattle.mig_deal.specs.declared.rule.Holding.{Holding}
use Rattle.mig_deal.specs.declared.rule.Terms.{Terms}
use Rattle.mig_deal.specs.Deal.{HasEachOnce, times}
use Rattle.mig_deal.specs.Rule.{Word, IsDealt, next_number, numbers_of, last_count, IsWorkButNewest}

-- the lists of all seats together hold each number from the base up to the word exactly once, and
-- no other
abbrev pub EachNumberOnce : Type 0
EachNumberOnce = (terms : Terms) (word : Word) → IsDealt terms word → HasEachOnce terms.base (next_number word) (flat_map numbers_of word.views)

-- seat `place` among all seats holds the number
abbrev pub IsHeldBy : Word → ℕ → ℕ → Type 0
IsHeldBy word number place = (seat : Holding) × (get_elem? word.views place ≡ some seat) × (times number (numbers_of seat) ≡ 1)

-- entry i of the history is the number base + i, and belongs to the one seat that holds this number
pub record IsEntry (word : Word) (number : ℕ) : Type 0 where
  pub place : ℕ
  pub held : IsHeldBy word number place
  pub by_no_other : (other : ℕ) (seat : Holding) → get_elem? word.views other ≡ some seat → 0 < times number (numbers_of seat) → other ≡ place

abbrev pub EachNumberHasOneSeat : Type 0
EachNumberHasOneSeat = (terms : Terms) (word : Word) → IsDealt terms word → (i : ℕ) → terms.base + i < next_number word → IsEntry word (terms.base + i)

-- no more numbers are drawn than there are batches and seats
abbrev pub WordStaysBelow : Type 0
WordStaysBelow = (terms : Terms) (word : Word) → IsDealt terms word → next_number word ≤ terms.base + terms.batches + terms.seats

-- the seat drew at most one last number, and nothing after it
pub record StopsAtLast (terms : Terms) (drawn : List ℕ) : Type 0 where
  pub one_last : last_count terms drawn ≤ 1
  pub nothing_after : IsWorkButNewest terms drawn

abbrev pub SeatsStopAtLast : Type 0
SeatsStopAtLast = (terms : Terms) (word : Word) → IsDealt terms word → (place : ℕ) (seat : Holding) → get_elem? word.views place ≡ some seat → StopsAtLast terms seat.drawn
