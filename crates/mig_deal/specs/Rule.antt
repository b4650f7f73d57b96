-- The rule of a deal's word, what its steps do to the seats, and what a seat is to callers.
use Rattle.std.specs.Prelude.{◌≡◌, ℕ, ◌+◌, ◌-◌, ◌≤◌, ◌<◌, Bool, List, [], ◌∷◌, ◌++◌, length, slice_index, leb, count_by, sum_by, flat_map}
use Rattle.std.specs.List.{range_with_len}
use mathlib.Core.Option.{some}
use lib.ListN.{get_elem?}
use Rattle.atomic_table.specs.Seated.{TableId}
use Rattle.atomic_table.specs.Table.{State, Me, Step}
use Rattle.mig_deal.specs.declared.rule.Holding.{Holding}
use Rattle.mig_deal.specs.declared.rule.Terms.{Terms}
use Rattle.mig_deal.specs.Deal.{DealView, SeatView, IsNext, HasEachOnce}

-- a deal's word with what all its seats hold
abbrev pub Word : Type 0
Word = State (Unit {0}) Holding

-- the number that is drawn next
abbrev pub next_number : Word → ℕ
next_number word = slice_index word.words 0

-- the fields in the order of the source
abbrev pub holding : Terms → ℕ → List ℕ → List ℕ → Holding
holding terms seats drawn joined = record { terms = terms; seats = seats; drawn = drawn; joined = joined }

-- the numbers that a seat holds: those that it drew, and those of the seats joined into it
abbrev pub numbers_of : Holding → List ℕ
numbers_of seat = seat.drawn ++ seat.joined

-- how many of the numbers are last ones, which claim no batch
abbrev pub last_count : Terms → List ℕ → ℕ
last_count terms numbers = count_by (λ number. leb (terms.base + terms.batches) number) numbers

-- the numbers from `from` up to `to` (exclusive)
abbrev pub numbers_between : ℕ → ℕ → List ℕ
numbers_between from to = range_with_len from (to - from)

-- two lists have the same numbers, each equally often, in any order: for any test the same number
-- of them passes
abbrev pub HasSameNumbers : List ℕ → List ℕ → Type 0
HasSameNumbers numbers others = (test : ℕ → Bool) → count_by test numbers ≡ count_by test others

-- each number but the newest claims a batch, so nothing was drawn after a last number
abbrev pub IsWorkButNewest : Terms → List ℕ → Type 0
IsWorkButNewest terms drawn = (place : ℕ) → place + 1 < length drawn → slice_index drawn place < terms.base + terms.batches

-- The invariant of one seat: it holds at most one last number for each of the deal's seats that it
-- represents; it drew nothing after a last number; if it represents no seat, it holds no number.
pub record IsLawfulSeat (terms : Terms) (seat : Holding) : Type 0 where
  pub few_lasts : last_count terms (numbers_of seat) ≤ seat.seats
  pub stops : IsWorkButNewest terms seat.drawn
  pub idle : seat.seats ≡ 0 → numbers_of seat ≡ []

-- the rule: the seats represent all of the deal's, and together they hold each number from the base
-- up to the next one once
pub record IsDealt (terms : Terms) (word : Word) : Type 0 where
  pub one_word : length word.words ≡ 1
  pub begun : terms.base ≤ next_number word
  pub seats : sum_by (λ (seat : Holding). seat.seats) word.views ≡ terms.seats
  pub whole : HasSameNumbers (flat_map numbers_of word.views) (numbers_between terms.base (next_number word))
  pub lawful : (id : ℕ) (seat : Holding) → get_elem? word.views id ≡ some seat → IsLawfulSeat terms seat

-- a draw adds the number that it finds to those that the seat drew
pub record HasNumber (before : Holding) (number : ℕ) (after : Holding) : Type 0 where
  pub appended : after ≡ holding before.terms before.seats (before.drawn ++ number ∷ []) before.joined
  pub next : IsNext before.terms.base before.drawn number
  pub within : number < before.terms.base + before.terms.batches + before.terms.seats

abbrev pub TellsNumber : Step (Unit {0}) → Me (Unit {0}) Holding → ℕ → Me (Unit {0}) Holding → Type 0
TellsNumber _ before number after = HasNumber before.0 number after.0 × (after.1 ≡ before.1)

-- For a seat that represents all of the deal's seats, each of which drew its last number: it holds
-- each number from the base up to the next one once, and the next one is the deal's end.
abbrev pub HasAllUpTo : Terms → Holding → ℕ → Type 0
HasAllUpTo terms seat next = seat.seats ≡ terms.seats → last_count terms (numbers_of seat) ≡ terms.seats → 0 < terms.seats → (numbers : List ℕ) → HasSameNumbers (numbers_of seat) numbers
    → HasEachOnce terms.base next numbers × (next ≡ terms.base + terms.batches + terms.seats)

-- what a read of the word reports of the number that it finds
abbrev pub TellsEnd : Step (Unit {0}) → Me (Unit {0}) Holding → ℕ → Me (Unit {0}) Holding → Type 0
TellsEnd _ before number after = HasAllUpTo before.0.terms before.0 number

-- a seat after one was split off it
abbrev pub without_one_seat : Holding → Holding
without_one_seat seat = holding seat.terms (seat.seats - 1) seat.drawn seat.joined

-- the seat that is split off: it represents one, and holds nothing
abbrev pub one_new_seat : Holding → Holding
one_new_seat seat = holding seat.terms 1 [] []

-- a seat with another one joined into it
abbrev pub together : Holding → Holding → Holding
together seat other = holding seat.terms (seat.seats + other.seats) seat.drawn (seat.joined ++ numbers_of other)

-- a seat after it was joined into another: it represents no seat
abbrev pub nothing_held : Holding
nothing_held = holding record { base = 0; batches = 0; seats = 0 } 0 [] []

-- the deal as its callers see it
abbrev pub deal_view : TableId → Terms → DealView
deal_view id terms = record { id = id; base = terms.base; batches = terms.batches; seats = terms.seats }

abbrev pub terms_of : DealView → Terms
terms_of deal = record { base = deal.base; batches = deal.batches; seats = deal.seats }

-- a seat as its callers see it
abbrev pub seat_view : TableId → Holding → SeatView
seat_view id seat = record { deal = deal_view id seat.terms; drawn = seat.drawn }

-- A seat that a caller has represents one, has no other joined into it, and has drawn `lasts` last
-- numbers: none while it may draw, one when it is spent.
pub record IsSeatWithLasts (lasts : ℕ) (seat : Holding) : Type 0 where
  pub one : seat.seats ≡ 1
  pub alone : seat.joined ≡ []
  pub lasts_drawn : last_count seat.terms seat.drawn ≡ lasts
