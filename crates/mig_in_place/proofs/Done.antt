-- Rounds and verdict are those of any load.
use Rattle.std.proofs.Common.{ℕ, ◌≡◌, ◌≢◌, List, [], ◌∷◌, Option, Some, None, refl, sym, ap, subst, ◌∙◌, inl, inr}
use Rattle.std.specs.Prelude.{◌⊎◌}
use Rattle.std.proofs.lemmas.Bool.{cases_eq}
use Rattle.mig_mem.specs.RamTable.{Block, RamTable}
use Rattle.mig_mem.specs.Image.{Image}
use Rattle.mig_stream.specs.Reading.{StreamReading}
use Rattle.mig_load_types.specs.Settings.{for_table}
use Rattle.mig_single_load.specs.InPlace.{IsOfOwnTable, IsOfOtherTable}
use Rattle.mig_answer.specs.Texts.{Readings}
use Rattle.mig_answer.specs.MultiLoad.{verdict_at, IsFirstStop}
use Rattle.mig_answer.proofs.OneAnswer.{same_readings, same_stop}
use Rattle.mig_in_place.specs.Law.{InPlaceTellsAlike}

-- ---- two tables are equal, or not

list_cases : {X : Type 0} → ((x y : X) → (x ≡ y) ⊎ (x ≢ y)) → (xs ys : List X) → (xs ≡ ys) ⊎ (xs ≢ ys)
list_cases cases [] [] = inl refl
list_cases cases [] (y ∷ ys) = inr (λ e. absurd cc)
list_cases cases (x ∷ xs) [] = inr (λ e. absurd cc)
list_cases {X} cases (x ∷ xs) (y ∷ ys) = elim (cases x y) [
  | inr n ↦ inr (λ e. let here : x ≡ y = cc in n here)
  | inl e ↦ elim (list_cases cases xs ys) [
    | inl f ↦ inl (ap (λ (z : X). z ∷ xs) e ∙ ap (λ (l : List X). y ∷ l) f)
    | inr n ↦ inr (λ f. let rest : xs ≡ ys = cc in n rest)
  ]
]

block_cases : (a b : Block) → (a ≡ b) ⊎ (a ≢ b)
block_cases a b = elim (list_cases cases_eq a.id b.id) [
  | inr n ↦ inr (λ e. n (ap (λ (x : Block). x.id) e))
  | inl e ↦ elim (cases_eq a.pages b.pages) [
    | inr n ↦ inr (λ f. n (ap (λ (x : Block). x.pages) f))
    | inl f ↦ inl (ap (λ (id : List ℕ). record { id = id; pages = a.pages }) e ∙ ap (λ (n : ℕ). record { id = b.id; pages = n }) f)
  ]
]

-- two tables are equal or differ
pub table_cases : (a b : RamTable) → (a ≡ b) ⊎ (a ≢ b)
table_cases a b = elim (cases_eq a.page_size b.page_size) [
  | inr n ↦ inr (λ e. n (ap (λ (x : RamTable). x.page_size) e))
  | inl e ↦ elim (list_cases block_cases a.blocks b.blocks) [
    | inr n ↦ inr (λ f. n (ap (λ (x : RamTable). x.blocks) f))
    | inl f ↦ inl (ap (λ (n : ℕ). record { page_size = n; blocks = a.blocks }) e ∙ ap (λ (l : List Block). record { page_size = b.page_size; blocks = l }) f)
  ]
]

-- a stream is of the memory's table, as far as it has one, or of another
pub own_or_other : (first : Image) (reading : StreamReading) → IsOfOwnTable first reading ⊎ IsOfOtherTable first reading
own_or_other first reading = go reading.table refl
  where
    go : (o : Option RamTable) → reading.table ≡ o → IsOfOwnTable first reading ⊎ IsOfOtherTable first reading
    go None e = inl (inl e)
    go (Some table) e = elim (table_cases table first.table) [
      | inl same ↦ inl (inr (e ∙ ap (λ (x : RamTable). Some x) same))
      | inr differ ↦ inr (table, e, differ)
    ]

-- ---- the answer is that of any load

-- a load in place has the rounds and the verdict of any load, unless the stream has another table
pub alike_law : InPlaceTellsAlike
alike_law given uuid first texts memory rounds verdict answer is_table here told not_other = elim (own_or_other first here.readings.main) [
  | inr other ↦ absurd (not_other (here.other other).has_verdict)
  | inl own ↦
      let own_answer = here.own own in
      let same : here.readings ≡ told.readings =
      same_readings (for_table first.table given) uuid texts here.readings told.readings is_table.has_page_size here.are_readings told.are_readings in
      let stop : IsFirstStop told.readings rounds = subst (λ (r : Readings). IsFirstStop r rounds) same own_answer.has_rounds in
      let e : rounds ≡ answer.rounds = same_stop told.readings rounds answer.rounds stop told.has_rounds in (
        e,
        own_answer.has_verdict ∙ ap (λ (r : Readings). verdict_at rounds r) same ∙ ap (λ (n : ℕ). verdict_at n told.readings) e ∙ sym told.has_verdict,
      )
]
