-- Pages of a block that are read one after another.
use Rattle.std.proofs.Common.{ℕ, ◌≡◌, ◌+◌, ◌*◌, ◌/◌, ◌<◌, ◌≤◌, ◌∙◌, List, Some, sym, ap, arith, below_more, div-mul-le_self}
use Rattle.mig_mem.specs.Image.{Image, content}
use Rattle.mig_mem.specs.Parts.{part_at, ChangesPart}
use Rattle.mig_mem.proofs.PageSizes.{page_before}
use Rattle.mig_mem.specs.Place.{place_at}

-- a part of as many as bytes have
pub part_within : (size len k : ℕ) → k < len / size → k * size + size ≤ len
part_within size len k lt = omega (arith, page_before size (len / size) k lt, div-mul-le_self len size)

-- the parts before one, and then that one, are pages
pub parts_on : (m : Image) (b page k : ℕ) (old new bytes : List ℕ) → ChangesPart m.table.page_size old new k bytes
    → content m (place_at b (page + k)) ≡ Some bytes
    → ((j : ℕ) → j < k → content m (place_at b (page + j)) ≡ Some (part_at m.table.page_size old j))
    → (j : ℕ) → j < k + 1 → content m (place_at b (page + j)) ≡ Some (part_at m.table.page_size new j)
parts_on m b page k old new bytes changes here before =
    below_more (λ (j : ℕ). content m (place_at b (page + j)) ≡ Some (part_at m.table.page_size new j)) k
    (λ j lt. before j lt ∙ ap (λ (l : List ℕ). Some l) (sym (changes.others j (λ e. absurd (omega (arith, lt, e))))))
    (here ∙ ap (λ (l : List ℕ). Some l) (sym changes.here))
