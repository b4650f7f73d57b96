-- What bytes that another owns hold, whether they are lent for reading or for writing: `bytes`
-- gives those of a loan.
use Rattle.std.proofs.Common.{ℕ, ◌≡◌, ◌<◌, ◌≤◌, ◌+◌, ◌*◌, List, [], inl, inr, Some, length, map, get_or, set, get_or-set_same, get_or-set_other, drop, sym, ap}
use Rattle.std.proofs.Common.{◌∙◌, arith}
use Rattle.std.proofs.lemmas.List.{get_or-map, length-map, length-set, map-set, length-take-le, length-drop}
use Rattle.std.proofs.lemmas.Bool.{cases_eq}
use Rattle.mig_mem.specs.declared.place.Place.{Place}
use Rattle.mig_mem.specs.RamTable.{RamTable, block}
use Rattle.mig_mem.specs.Place.{IsPlace}
use Rattle.mig_mem.specs.Image.{IsImage, content, content_at, with_page}
use Rattle.mig_mem.specs.Parts.{part_at, ChangesPart}
use Rattle.mig_mem.specs.Lent.{FitTable, bytes_of_block, lent_at, lent_image}
use Rattle.mig_mem.proofs.Images.{image_from, content-image_of, content_at-image_of, with_page-image_of}
use Rattle.mig_mem.proofs.PlaceOrder.{same_place}
use Rattle.mig_mem.proofs.PageSizes.{page_before}

-- a page lies in the bytes of its block
pub room_in_block : (table : RamTable) (blocks : List (List ℕ)) (p : Place) → FitTable table blocks → IsPlace table p
    → p.page * table.page_size + table.page_size ≤ length (bytes_of_block blocks p.block)
room_in_block table blocks p fit is =
    omega (arith, fit.has_sizes p.block is.has_block, page_before table.page_size (block table.blocks p.block).pages p.page is.has_page)

-- what the bytes hold is a memory
pub lent_is_image : (table : RamTable) (blocks : List (List ℕ)) → FitTable table blocks → IsImage (lent_image table blocks)
lent_is_image table blocks fit = image_from table (lent_at table.page_size blocks) (λ p is.
    let all : List ℕ = bytes_of_block blocks p.block in
    length-take-le table.page_size (drop (p.page * table.page_size) all)
    (omega (arith, length-drop (p.page * table.page_size) all, room_in_block table blocks p fit is)))

-- the content of a place
pub lent_content : (table : RamTable) (blocks : List (List ℕ)) (p : Place) → IsPlace table p
    → content (lent_image table blocks) p ≡ Some (lent_at table.page_size blocks p)
lent_content table blocks p is = content-image_of table (lent_at table.page_size blocks) p is

-- ---- the loans of all blocks

-- each block of the table has one
pub has_loan : {T : Type 0} (bytes : T → List ℕ) (table : RamTable) (loans : List T) (i : ℕ) → FitTable table (map bytes loans)
    → i < length table.blocks → i < length loans
has_loan {T} bytes table loans i fit lt = omega (arith, fit.same_count, length-map loans bytes)

-- the bytes of a block are those of its loan
pub loan_at : {T : Type 0} (bytes : T → List ℕ) (loans : List T) (i : ℕ) (d : T) → i < length loans
    → bytes_of_block (map bytes loans) i ≡ bytes (get_or loans i d)
loan_at {T} bytes loans i d lt = get_or-map bytes loans i d [] lt

-- the page lies in the loan of its block
pub room_in_loan : {T : Type 0} (bytes : T → List ℕ) (table : RamTable) (loans : List T) (p : Place) (d : T)
    → FitTable table (map bytes loans) → IsPlace table p
    → p.page * table.page_size + table.page_size ≤ length (bytes (get_or loans p.block d))
room_in_loan {T} bytes table loans p d fit is =
    rw (← loan_at bytes loans p.block d (has_loan bytes table loans p.block fit is.has_block)) (room_in_block table (map bytes loans) p fit is)

-- what is read of it is a page of the memory
pub page_of_loan : {T : Type 0} (bytes : T → List ℕ) (table : RamTable) (loans : List T) (p : Place) (d : T)
    → FitTable table (map bytes loans) → IsPlace table p
    → part_at table.page_size (bytes (get_or loans p.block d)) p.page ≡ content_at (lent_image table (map bytes loans)) p
page_of_loan {T} bytes table loans p d fit is =
    ap (λ (l : List ℕ). part_at table.page_size l p.page) (sym (loan_at bytes loans p.block d (has_loan bytes table loans p.block fit is.has_block)))
    ∙ sym (content_at-image_of table (lent_at table.page_size (map bytes loans)) p is)

-- ---- a page is written

-- the bytes of one block are replaced by as many
fit_written : (table : RamTable) (blocks : List (List ℕ)) (i : ℕ) (new : List ℕ) → FitTable table blocks → i < length table.blocks
    → length new ≡ length (bytes_of_block blocks i) → FitTable table (set blocks i new)
fit_written table blocks i new fit lt len = record {
  same_count = length-set blocks i new ∙ fit.same_count;
  has_sizes = λ k has. elim (cases_eq k i) [
    | inl at ↦
        ap (λ (j : ℕ). length (bytes_of_block (set blocks i new) j)) at ∙ ap (λ (l : List ℕ). length l) (get_or-set_same blocks i new [] (rw fit.same_count lt))
        ∙ len ∙ ap (λ (j : ℕ). length (bytes_of_block blocks j)) (sym at) ∙ fit.has_sizes k has
    | inr other ↦ ap (λ (l : List ℕ). length l) (get_or-set_other blocks i k new [] other) ∙ fit.has_sizes k has
  ];
}

-- the memory with a page in it
image_written : (table : RamTable) (blocks : List (List ℕ)) (p : Place) (new content : List ℕ) → FitTable table blocks → IsPlace table p
    → ChangesPart table.page_size (bytes_of_block blocks p.block) new p.page content
    → with_page (lent_image table blocks) p content ≡ lent_image table (set blocks p.block new)
image_written table old p new content fit is changes =
    let size : ℕ = table.page_size in
    let there : bytes_of_block (set old p.block new) p.block ≡ new = get_or-set_same old p.block new [] (rw fit.same_count is.has_block) in
    with_page-image_of table (lent_at size old) (lent_at size (set old p.block new)) p content
    (sym changes.here ∙ ap (λ (l : List ℕ). part_at size l p.page) (sym there))
    (λ q has_q other. elim (cases_eq q.block p.block) [
      | inl at ↦
          ap (λ (b : ℕ). part_at size (bytes_of_block old b) q.page) at
          ∙ sym (changes.others q.page (λ e. other (same_place q p at e)))
          ∙ ap (λ (l : List ℕ). part_at size l q.page) (sym there)
          ∙ ap (λ (b : ℕ). part_at size (bytes_of_block (set old p.block new) b) q.page) (sym at)
      | inr away ↦ ap (λ (l : List ℕ). part_at size l q.page) (sym (get_or-set_other old p.block q.block new [] away))
    ])

-- a loan that was written at one page: the loans still fit, and the memory
pub loan_written : {T : Type 0} (bytes : T → List ℕ) (table : RamTable) (loans : List T) (p : Place) (d x : T) (content : List ℕ)
    → FitTable table (map bytes loans) → IsPlace table p
    → ChangesPart table.page_size (bytes (get_or loans p.block d)) (bytes x) p.page content
    → FitTable table (map bytes (set loans p.block x))
    × (with_page (lent_image table (map bytes loans)) p content ≡ lent_image table (map bytes (set loans p.block x)))
loan_written {T} bytes table loans p d x content fit is changes =
    let old : List (List ℕ) = map bytes loans in
    let was : bytes_of_block old p.block ≡ bytes (get_or loans p.block d) =
    loan_at bytes loans p.block d (has_loan bytes table loans p.block fit is.has_block) in
    let so : ChangesPart table.page_size (bytes_of_block old p.block) (bytes x) p.page content = rw was changes in
    rw (map-set bytes loans p.block x) (fit_written table old p.block (bytes x) fit is.has_block so.len, image_written table old p (bytes x) content fit is so)
