-- A deal as its callers see it: which deal it is, what a seat has drawn, and when numbers are
-- consecutive, each drawn once.
use Rattle.std.specs.Prelude.{◌≡◌, ℕ, ◌+◌, ◌<◌, ◌≤◌, List, ◌++◌, ◌∷◌, [], length, ◌==◌, ◌^◌, All, count_by, flat_map}
use Rattle.atomic_table.specs.Seated.{TableId}

-- which deal it is, its first number, how many batches it numbers, and how many seats draw from it
pub record DealView : Type 0 where
  pub id : TableId
  pub base : ℕ
  pub batches : ℕ
  pub seats : ℕ

-- the limits within which a deal is made
abbrev pub IsWithinLimits : ℕ → ℕ → ℕ → Type 0
IsWithinLimits base batches seats = (base ≤ 2 ^ 63) × (batches ≤ 2 ^ 28) × (0 < seats) × (seats ≤ 255)

-- the first number that claims no batch: numbers from the base up to here are work
abbrev pub end_of_work : DealView → ℕ
end_of_work deal = deal.base + deal.batches

-- the first number that no seat draws: each seat draws one number past the work, its last
abbrev pub end_of_deal : DealView → ℕ
end_of_deal deal = deal.base + deal.batches + deal.seats

-- a seat is one worker's right to draw: its deal, and the numbers that it has drawn, in order
pub record SeatView : Type 0 where
  pub deal : DealView
  pub drawn : List ℕ

-- a seat that has drawn nothing
abbrev pub new_seat : DealView → SeatView
new_seat deal = record { deal = deal; drawn = [] }

-- the seat after it has drawn a number
abbrev pub with_number : SeatView → ℕ → SeatView
with_number seat number = record { deal = seat.deal; drawn = seat.drawn ++ number ∷ [] }

-- the numbers of several seats, one list after the other
abbrev pub all_drawn : List SeatView → List ℕ
all_drawn seats = flat_map (λ (seat : SeatView). seat.drawn) seats

-- how often a number stands in a list
abbrev pub times : ℕ → List ℕ → ℕ
times number numbers = count_by (λ other. other == number) numbers

-- each number from `from` up to `to` (exclusive) is in the list exactly once, and no other number
-- is
pub record HasEachOnce (from to : ℕ) (numbers : List ℕ) : Type 0 where
  pub once : (number : ℕ) → from ≤ number → number < to → times number numbers ≡ 1
  pub none_below : (number : ℕ) → number < from → times number numbers ≡ 0
  pub none_above : (number : ℕ) → to ≤ number → times number numbers ≡ 0

-- the number is above all that the seat drew before, and at least the base plus their count
pub record IsNext (base : ℕ) (before : List ℕ) (number : ℕ) : Type 0 where
  pub above : All (λ earlier. earlier < number) before
  pub far : base + length before ≤ number
