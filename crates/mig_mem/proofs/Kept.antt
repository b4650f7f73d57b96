-- What the blocks of a memory hold.
use Rattle.std.proofs.Common.{ℕ, ◌≡◌, ◌<◌, List, [], inl, inr, get_or-set_same, get_or-set_other, length, map, get_or, set, replicate, refl, sym, ap, subst}
use Rattle.std.proofs.Common.{◌∙◌, arith}
use Rattle.std.proofs.lemmas.List.{ext_get_or, get_or-map, get_or_default, get_or-replicate, length-map, length-replicate}
use Rattle.std.proofs.lemmas.List.Elements.{All-from_get_or}
use Rattle.std.specs.List.{range_with_len}
use Rattle.std.proofs.lemmas.List.FromFn.{get_or-map-range_with_len, length-map-range_with_len}
use Rattle.std.proofs.lemmas.Bool.{cases_eq}
use Rattle.mig_mem.specs.declared.place.Place.{Place}
use Rattle.mig_mem.specs.RamTable.{RamTable, block, IsTable}
use Rattle.mig_mem.specs.Place.{IsPlace}
use Rattle.mig_mem.specs.Image.{IsImage, zero_image, zero_page, content_at, with_page}
use Rattle.mig_mem.specs.BlockPages.{BlockPages, no_pages, page_at, with_content, cleared}
use Rattle.mig_mem.specs.Buffers.{pages_of_block, held_at, HasPages, IsHeld, image_in}
use Rattle.mig_mem.proofs.Images.{with_page-image_of, image_agree, image_from, content_at-image_of}
use Rattle.mig_mem.proofs.PlaceOrder.{same_place}
use Rattle.mig_mem.proofs.Slotted.{length-zero_page}

-- there is a block for each of the table
pub has_block : (table : RamTable) (blocks : List BlockPages) (i : ℕ) → IsHeld table blocks → i < length table.blocks → i < length blocks
has_block table blocks i held h = omega (arith, held.same_count)

-- a block's pages are those of the element at its number
pub block_is : (blocks : List BlockPages) (i : ℕ) (x : BlockPages) → i < length blocks → x ≡ get_or blocks i x → pages_of_block blocks i ≡ x
block_is blocks i x lt e = get_or_default blocks i (record { size = 0; pages = [] }) x lt ∙ sym e

-- the pages of a block that is looked up
pub block_held : (table : RamTable) (blocks : List BlockPages) (i : ℕ) (x : BlockPages) → IsHeld table blocks → i < length table.blocks → x ≡ get_or blocks i x
    → HasPages table.page_size (block table.blocks i).pages x
block_held table blocks i x held lt e =
    let same : pages_of_block blocks i ≡ x = block_is blocks i x (has_block table blocks i held lt) e in
    subst (λ (b : BlockPages). HasPages table.page_size (block table.blocks i).pages b) same (held.has_pages i lt)

-- the page of a place is there
pub has_page : (table : RamTable) (blocks : List BlockPages) (p : Place) (x : BlockPages) → IsHeld table blocks → IsPlace table p
    → x ≡ get_or blocks p.block x → p.page < length x.pages
has_page table blocks p x held is e = omega (arith, (block_held table blocks p.block x held is.has_block e).same_count, is.has_page)

held_size : (table : RamTable) (blocks : List BlockPages) (p : Place) → IsHeld table blocks → IsPlace table p → length (held_at blocks p) ≡ table.page_size
held_size table blocks p held is =
    let pages = held.has_pages p.block is.has_block in
    pages.has_sizes p.page [] (omega (arith, pages.same_count, is.has_page))

-- what the blocks hold is a memory
pub kept_image : (table : RamTable) (blocks : List BlockPages) → IsHeld table blocks → IsImage (image_in table blocks)
kept_image table blocks held = image_from table (held_at blocks) (λ p is. held_size table blocks p held is)

-- what is read of a block is a page of the memory
pub page_read : (table : RamTable) (blocks : List BlockPages) (p : Place) (x : BlockPages) → IsHeld table blocks → IsPlace table p → x ≡ get_or blocks p.block x
    → page_at x p.page ≡ content_at (image_in table blocks) p
page_read table blocks p x held is e =
    ap (λ (b : BlockPages). page_at b p.page) (sym (block_is blocks p.block x (has_block table blocks p.block held is.has_block) e))
    ∙ sym (content_at-image_of table (held_at blocks) p is)

-- ---- a page is written

-- a page that is written into its block is written into the image
pub put_image : (table : RamTable) (blocks : List BlockPages) (p : Place) (x : BlockPages) (content : List ℕ)
    → IsHeld table blocks → IsPlace table p → x ≡ get_or blocks p.block x
    → with_page (image_in table blocks) p content ≡ image_in table (set blocks p.block (with_content x p.page content))
put_image table blocks p x content held is e =
    let new : BlockPages = with_content x p.page content in
    let none : BlockPages = record { size = 0; pages = [] } in
    let there : pages_of_block (set blocks p.block new) p.block ≡ new =
    get_or-set_same blocks p.block new none (has_block table blocks p.block held is.has_block) in
    let was : pages_of_block blocks p.block ≡ x = block_is blocks p.block x (has_block table blocks p.block held is.has_block) e in
    with_page-image_of table (held_at blocks) (held_at (set blocks p.block new)) p content
    (sym (ap (λ (b : BlockPages). page_at b p.page) there ∙ get_or-set_same x.pages p.page content [] (has_page table blocks p x held is e)))
    (λ q has_q other. elim (cases_eq q.block p.block) [
      | inl at ↦
          ap (λ (j : ℕ). page_at (pages_of_block blocks j) q.page) at ∙ ap (λ (b : BlockPages). page_at b q.page) was
          ∙ sym (get_or-set_other x.pages p.page q.page content [] (λ same. other (same_place q p at same)))
          ∙ ap (λ (b : BlockPages). page_at b q.page) (sym there)
          ∙ ap (λ (j : ℕ). page_at (pages_of_block (set blocks p.block new) j) q.page) (sym at)
      | inr away ↦ ap (λ (b : BlockPages). page_at b q.page) (sym (get_or-set_other blocks p.block q.block new none away))
    ])

-- ---- blocks of zeros

abbrev pub zero_block : RamTable → ℕ → BlockPages
zero_block table b = record { size = table.page_size; pages = replicate (block table.blocks b).pages (zero_page table.page_size) }

zero_block_at : (table : RamTable) (blocks : List BlockPages) (i : ℕ)
    → blocks ≡ map (zero_block table) (range_with_len 0 (length table.blocks)) → i < length table.blocks
    → pages_of_block blocks i ≡ zero_block table i
zero_block_at table blocks i e lt =
    ap (λ (l : List BlockPages). pages_of_block l i) e
    ∙ get_or-map-range_with_len (zero_block table) 0 (length table.blocks) i i (record { size = 0; pages = [] }) lt (omega arith)

zero_pages : (size count : ℕ) → HasPages size count (record { size = size; pages = replicate count (zero_page size) })
zero_pages size count = record {
  same_size = refl;
  same_count = length-replicate count (zero_page size);
  has_sizes = All-from_get_or (λ c. length c ≡ size) (replicate count (zero_page size)) [] (λ i lt.
      ap (λ (l : List ℕ). length l) (get_or-replicate count i (zero_page size) []
      (omega (arith, length-replicate count (zero_page size)))) ∙ length-zero_page size);
}

-- blocks of zeros, one for each of the table, are held for it
pub zeros_held : (table : RamTable) (blocks : List BlockPages) → IsTable table
    → blocks ≡ map (zero_block table) (range_with_len 0 (length table.blocks)) → IsHeld table blocks
zeros_held table blocks is e = record {
  is_table = is;
  same_count = ap (λ (l : List BlockPages). length l) e ∙ length-map-range_with_len (zero_block table) 0 (length table.blocks);
  has_pages = λ i lt. (let there : pages_of_block blocks i ≡ zero_block table i = zero_block_at table blocks i e lt in
      rw there (zero_pages table.page_size (block table.blocks i).pages));
}

-- blocks of zeros are the image of zeros
pub zeros_image : (table : RamTable) (blocks : List BlockPages)
    → blocks ≡ map (zero_block table) (range_with_len 0 (length table.blocks)) → image_in table blocks ≡ zero_image table
zeros_image table blocks e = image_agree table (held_at blocks) (λ _. zero_page table.page_size) (λ p is.
    ap (λ (b : BlockPages). page_at b p.page) (zero_block_at table blocks p.block e is.has_block)
    ∙ get_or-replicate (block table.blocks p.block).pages p.page (zero_page table.page_size) [] is.has_page)

-- blocks whose pages are all set to zeros are blocks of zeros
pub cleared_blocks : (table : RamTable) (blocks : List BlockPages) → IsHeld table blocks
    → map cleared blocks ≡ map (zero_block table) (range_with_len 0 (length table.blocks))
cleared_blocks table blocks held =
    let n : ℕ = length table.blocks in
    let many : length (map cleared blocks) ≡ n = length-map blocks cleared ∙ held.same_count in
    ext_get_or no_pages (map cleared blocks) (map (zero_block table) (range_with_len 0 n))
    (many ∙ sym (length-map-range_with_len (zero_block table) 0 n)) (λ i li.
    let lt : i < n = omega (arith, many, li) in
    let b : BlockPages = pages_of_block blocks i in
    let pages = held.has_pages i lt in
    get_or-map cleared blocks i no_pages no_pages (omega (arith, held.same_count, lt))
    ∙ ap (λ (s : ℕ). record { size = s; pages = replicate (length b.pages) (zero_page s) }) pages.same_size
    ∙ ap (λ (m : ℕ). record { size = table.page_size; pages = replicate m (zero_page table.page_size) }) pages.same_count
    ∙ sym (get_or-map-range_with_len (zero_block table) 0 n i i no_pages lt (omega arith)))
