-- A page that is filled with one byte.
use Rattle.std.proofs.Common.{ℕ, ◌≡◌, ◌≤◌, ◌∙◌, List, length, take, replicate, ap}
use Rattle.std.proofs.lemmas.List.{length-replicate, take-replicate}
use Rattle.mig_mem.specs.RamTable.{RamTable, IsTable}
use Rattle.mig_mem.specs.Image.{Image, with_page}
use Rattle.mig_mem.specs.declared.place.Place.{Place}
use Rattle.mig_mem.proofs.PageSizes.{page_size_small}

-- the page size of a lawful table is the largest at most
pub page_bound : (t u : RamTable) (size : ℕ) → IsTable t → t ≡ u → size ≡ u.page_size → size ≤ 8192
page_bound t u size is same of = page_size_small size (rw (of, ← same) is.has_page_size)

-- the first `size` of at least as many bytes of one value are `size` bytes of that value
pub front_filled : (size n byte : ℕ) (xs : List ℕ) → size ≤ n → xs ≡ replicate n byte → take size xs ≡ replicate size byte
front_filled size n byte xs le is = rw is (take-replicate size n byte le)

-- the first page of a buffer of one byte value is as long as a page
pub front_len : (size page_size n byte : ℕ) (xs : List ℕ) → size ≡ page_size → size ≤ n → xs ≡ replicate n byte → length (take size xs) ≡ page_size
front_len size page_size n byte xs of le is = ap (λ (bytes : List ℕ). length bytes) (front_filled size n byte xs le is) ∙ length-replicate size byte ∙ of

-- a page put from the first bytes of a filled buffer is a page filled with that byte
pub page_filled : (new old : Image) (p : Place) (size n byte : ℕ) (xs : List ℕ) → new ≡ with_page old p (take size xs)
    → size ≡ old.table.page_size → size ≤ n → xs ≡ replicate n byte
    → new ≡ with_page old p (replicate old.table.page_size byte)
page_filled new old p size n byte xs put of le is =
    put ∙ ap (λ (bytes : List ℕ). with_page old p bytes) (front_filled size n byte xs le is ∙ ap (λ (k : ℕ). replicate k byte) of)
