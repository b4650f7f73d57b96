-- The memory that only contracts name stays a memory.
use Rattle.std.proofs.Common.{ℕ, ◌≡◌, List, length, ap, ◌∙◌, cond, inl, inr}
use Rattle.std.proofs.lemmas.Bool.{cases_Bool, cond-true, cond-false}
use Rattle.std.proofs.lemmas.List.{length-replicate}
use Rattle.mig_mem.specs.declared.place.Place.{Place}
use Rattle.mig_mem.specs.RamTable.{RamTable}
use Rattle.mig_mem.specs.Place.{place_eq}
use Rattle.mig_mem.specs.Image.{Image, IsImage, content_at, zero_image, zero_page, with_page}
use Rattle.mig_mem.proofs.Images.{image_from, content_size}

-- zeros are a memory
pub zeros_image : (table : RamTable) → IsImage (zero_image table)
zeros_image table = image_from table (λ _. zero_page table.page_size) (λ p is. length-replicate table.page_size 0)

-- a memory with a page written is one
pub written_image : (m : Image) (p : Place) (bytes : List ℕ) → IsImage m → length bytes ≡ m.table.page_size → IsImage (with_page m p bytes)
written_image m p bytes is size =
    image_from m.table (λ q. cond (place_eq q p) bytes (content_at m q)) (λ q at. elim (cases_Bool (place_eq q p)) [
      | inl t ↦ ap (λ (l : List ℕ). length l) (cond-true (place_eq q p) bytes (content_at m q) t) ∙ size
      | inr n ↦ ap (λ (l : List ℕ). length l) (cond-false (place_eq q p) bytes (content_at m q) n) ∙ content_size m q is at
    ])

-- and so is a memory with a page of zeros
pub cleared_image : (m : Image) (p : Place) → IsImage m → IsImage (with_page m p (zero_page m.table.page_size))
cleared_image m p is = written_image m p (zero_page m.table.page_size) is (length-replicate m.table.page_size 0)
