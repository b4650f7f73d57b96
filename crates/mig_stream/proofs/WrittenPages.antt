-- The records that a writer makes of pages represent those pages.
use Rattle.std.proofs.Common.{◌≡◌, ℕ, List, [], ◌∷◌, length, map, replicate, Some, None, refl, sym, ap, ◌∙◌, inl, inr}
use Rattle.std.specs.Prelude.{if◌then◌else◌}
use Rattle.std.specs.List.{All}
use Rattle.std.specs.Option.{unwrap_or}
use Rattle.std.proofs.lemmas.Bool.{cases_Bool}
use Rattle.std.proofs.lemmas.List.Elements.{All-head, All-tail}
use Rattle.mig_zero.specs.Zero.{IsZero, is_zero}
use Rattle.mig_zero.proofs.Zeros.{zeros_from_test}
use Rattle.mig_mem.specs.RamTable.{RamTable}
use Rattle.mig_mem.specs.Image.{Page, zero_page}
use Rattle.mig_mem.specs.Round.{IsRound}
use Rattle.mig_stream.specs.PageRecord.{page_of}
use Rattle.mig_stream.specs.Written.{written_record}

-- bytes that are zeros are a page of zeros
zeros_are : (xs : List ℕ) → IsZero xs → xs ≡ replicate (length xs) 0
zeros_are [] zeros = refl
zeros_are (x ∷ xs) zeros =
    let first : x ≡ 0 = All-head (λ b. b ≡ 0) x xs zeros in
    rw (← zeros_are xs (All-tail (λ b. b ≡ 0) x xs zeros)) (ap (λ (n : ℕ). n ∷ xs) first)

content_stays : (xs : List ℕ) (size : ℕ) → length xs ≡ size → unwrap_or (if is_zero xs then None else Some xs) (zero_page size) ≡ xs
content_stays xs size len = elim (cases_Bool (is_zero xs)) [
  | inl t ↦ rw t (ap (λ (n : ℕ). replicate n 0) (sym len) ∙ sym (zeros_are xs (zeros_from_test xs t)))
  | inr f ↦ rw f refl
]

pages_stay : (size : ℕ) (round : List Page) → All (λ x. length x.content ≡ size) round → map (page_of size) (map written_record round) ≡ round
pages_stay size [] sizes = refl
pages_stay size (x ∷ round) sizes =
    let here = content_stays x.content size (All-head (λ (y : Page). length y.content ≡ size) x round sizes) in
    ap (λ (bytes : List ℕ). record { place = x.place; content = bytes } ∷ map (page_of size) (map written_record round)) here
    ∙ ap (λ (pages : List Page). x ∷ pages) (pages_stay size round (All-tail (λ (y : Page). length y.content ≡ size) x round sizes))

-- the pages of a round are read as they were written
pub written_pages : (table : RamTable) (round : List Page) → IsRound table round → map (page_of table.page_size) (map written_record round) ≡ round
written_pages table round is = pages_stay table.page_size round is.has_sizes
