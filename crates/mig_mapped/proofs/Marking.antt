-- The bit of one page of a writer is set or cleared.
use Rattle.std.proofs.Common.{ℕ, ◌≡◌, ◌≢◌, ◌+◌, ◌*◌, ◌<◌, ◌==◌, ◌&&◌, Bool, false, cond, List, [], ◌∷◌, length, set, replicate}
use Rattle.std.proofs.Common.{refl, sym, ap, subst, ◌∙◌, inl, inr, arith, get_or-set_same, get_or-set_other}
use Rattle.std.specs.Prelude.{not}
use Rattle.std.proofs.Math.Seq.{map-set_same}
use Rattle.std.proofs.lemmas.Bool.{cases_Bool, cases_eq, cond-true, cond-false, eq-eqb, ne_eqb, and_left, not-false}
use Rattle.std.proofs.lemmas.List.{length-set, length-map}
use Rattle.std.proofs.lemmas.List.Elements.{All-head, All-tail}
use Rattle.mig_zero.specs.Zero.{IsZero, is_zero}
use Rattle.mig_zero.proofs.Zeros.{zeros_from_test}
use Rattle.mig_mem.specs.declared.place.Place.{Place}
use Rattle.mig_mem.specs.RamTable.{Block, RamTable, IsTable}
use Rattle.mig_mem.specs.Place.{place_at, place_eq, IsPlace}
use Rattle.mig_mem.specs.Image.{Image, content_at, zero_page, with_page}
use Rattle.mig_mem.proofs.Images.{image_from, content_at-image_of, content_size}
use Rattle.mig_mem.proofs.PageSizes.{page_before}
use Rattle.mig_mem.proofs.PlaceOrder.{place_eq-true}
use Rattle.mig_mapped.specs.Bitmap.{is_set, bitmap_len, byte_of}
use Rattle.mig_mapped.specs.Block.{MappedBlock, ram_block, mapped_block}
use Rattle.mig_mapped.specs.Head.{most_file_bytes}
use Rattle.mig_mapped.specs.Write.{MappedWriting, written_table, head_offset, head_len, offset_at, aligned, IsLaid, has_bit, PutsBit, StandsFor}
use Rattle.mig_mapped.specs.Write.{PutsBlockBit, IsWriting}
use Rattle.mig_mapped.proofs.Bits.{byte_within}
use Rattle.mig_mapped.proofs.Blocks.{block_mapped}
use Rattle.mig_mapped.proofs.Offsets.{same_head, laid_at, pages_near}

-- a place of the table of a writer that is this one
pub place_in : (w v : MappedWriting) (p : Place) → w ≡ v → IsPlace (written_table v) p → IsPlace (written_table w) p
place_in w v p e is = subst (λ (x : MappedWriting). IsPlace (written_table x) p) (sym e) is

-- the block of a place of the table
pub place_block : (w : MappedWriting) (p : Place) → IsPlace (written_table w) p
    → (p.block < length w.blocks) × (p.page < (mapped_block w.blocks p.block).pages)
place_block w p is =
    let lt : p.block < length w.blocks = omega (arith, is.has_block, length-map w.blocks ram_block) in
    (lt, omega (arith, is.has_page, ap (λ (b : Block). b.pages) (block_mapped w.blocks p.block lt)))

-- a page's offset is in a file
pub page_near : (w : MappedWriting) (p : Place) → IsWriting w → IsPlace (written_table w) p → offset_at w p < most_file_bytes
page_near w p is place =
    let at = place_block w p place in
    omega (arith, pages_near w p.block is at.0, page_before w.given.page_size (mapped_block w.blocks p.block).pages p.page at.1)

-- the byte of its bit is in the block's bitmap
pub bit_room : (w : MappedWriting) (p : Place) → IsWriting w → IsPlace (written_table w) p
    → byte_of w.given.order p.page < length (mapped_block w.blocks p.block).bitmap
bit_room w p is place =
    let at = place_block w p place in
    omega (arith, (is.are_laid p.block at.0).has_bitmap, byte_within w.given.order (mapped_block w.blocks p.block).pages p.page at.1)

-- the writer with another block in the place of one
abbrev pub with_block : MappedWriting → ℕ → MappedBlock → MappedWriting
with_block w i b = record w { blocks = set w.blocks i b }

-- a block is as before but for its bitmap's bits
record IsAsBefore (old new : MappedBlock) : Type 0 where
  same_id : new.id ≡ old.id
  same_pages : new.pages ≡ old.pages
  same_offset : new.pages_at ≡ old.pages_at
  same_len : length new.bitmap ≡ length old.bitmap

new_block : (w : MappedWriting) (i j : ℕ) (b : MappedBlock) → i < length w.blocks → j ≡ i → mapped_block (set w.blocks i b) j ≡ b
new_block w i j b lt at = ap (mapped_block (set w.blocks i b)) at ∙ get_or-set_same w.blocks i b _ lt

old_block : (w : MappedWriting) (i j : ℕ) (b : MappedBlock) → j ≢ i → mapped_block (set w.blocks i b) j ≡ mapped_block w.blocks j
old_block w i j b other = get_or-set_other w.blocks i j b _ other

as_before : (w : MappedWriting) (i j page : ℕ) (bit : Bool) (b : MappedBlock) → i < length w.blocks
    → PutsBlockBit w.given.order (mapped_block w.blocks i) page bit b → IsAsBefore (mapped_block w.blocks j) (mapped_block (set w.blocks i b) j)
as_before w i j page bit b lt puts = elim (cases_eq j i) [
  | inl at ↦ subst (IsAsBefore (mapped_block w.blocks j)) (sym (new_block w i j b lt at))
      (subst (λ (x : MappedBlock). IsAsBefore x b) (ap (mapped_block w.blocks) (sym at))
      (record { same_id = puts.same_id; same_pages = puts.same_pages; same_offset = puts.same_offset; same_len = puts.same_len }))
  | inr other ↦ subst (IsAsBefore (mapped_block w.blocks j)) (sym (old_block w i j b other))
      (record { same_id = refl; same_pages = refl; same_offset = refl; same_len = refl })
]

same_table : (w : MappedWriting) (i page : ℕ) (bit : Bool) (b : MappedBlock) → PutsBlockBit w.given.order (mapped_block w.blocks i) page bit b
    → written_table (with_block w i b) ≡ written_table w
same_table w i page bit b puts =
    let same : ram_block b ≡ ram_block (mapped_block w.blocks i) =
    ap (λ (l : List ℕ). record { id = l; pages = b.pages }) puts.same_id
    ∙ ap (λ (n : ℕ). record { id = (mapped_block w.blocks i).id; pages = n }) puts.same_pages in
    ap (λ (l : List Block). record { page_size = w.given.page_size; blocks = l }) (map-set_same ram_block w.blocks i b _ same)

-- the bits of the other blocks, and of this one
bit_is : (w : MappedWriting) (p q : Place) (bit : Bool) (b : MappedBlock) → p.block < length w.blocks
    → PutsBlockBit w.given.order (mapped_block w.blocks p.block) p.page bit b
    → has_bit (with_block w p.block b) q ≡ cond (place_eq q p) bit (has_bit w q)
bit_is w p q bit b lt puts =
    let of : MappedBlock → Bool = λ x. is_set w.given.order x.bitmap q.page in
    elim (cases_eq q.block p.block) [
      | inl at ↦
          let test : place_eq q p ≡ (q.page == p.page) = ap (λ (t : Bool). t && q.page == p.page) (eq-eqb _ _ at) in
          ap of (new_block w p.block q.block b lt at) ∙ puts.bits q.page
          ∙ ap (λ (n : ℕ). cond (q.page == p.page) bit (of (mapped_block w.blocks n))) (sym at)
          ∙ ap (λ (t : Bool). cond t bit (has_bit w q)) (sym test)
      | inr other ↦
          let test : place_eq q p ≡ false = and_left _ _ (ne_eqb q.block p.block other) in
          ap of (old_block w p.block q.block b other) ∙ sym (cond-false _ _ _ test)
    ]

pub bit_puts : (w : MappedWriting) (p : Place) (bit : Bool) (b : MappedBlock) → IsPlace (written_table w) p
    → PutsBlockBit w.given.order (mapped_block w.blocks p.block) p.page bit b → PutsBit w p bit (with_block w p.block b)
bit_puts w p bit b place puts =
    let at = place_block w p place in
    record {
      same_given = refl;
      same_place = refl;
      same_table = same_table w p.block p.page bit b puts;
      same_offsets = λ i. (as_before w p.block i p.page bit b at.0 puts).same_offset;
      bits = λ q. bit_is w p q bit b at.0 puts;
    }

pub bit_keeps : (w : MappedWriting) (p : Place) (bit : Bool) (b : MappedBlock) → IsWriting w → IsPlace (written_table w) p
    → PutsBlockBit w.given.order (mapped_block w.blocks p.block) p.page bit b → IsWriting (with_block w p.block b)
bit_keeps w p bit b is place puts =
    let v : MappedWriting = with_block w p.block b in
    let at = place_block w p place in
    let size : ℕ = w.given.page_size in
    let same : (i : ℕ) → IsAsBefore (mapped_block w.blocks i) (mapped_block v.blocks i) = λ i. as_before w p.block i p.page bit b at.0 puts in
    let count : length v.blocks ≡ length w.blocks = length-set w.blocks p.block b in
    let head : (i : ℕ) → head_offset v i ≡ head_offset w i = λ i. same_head v w i refl (λ j lt.
    ap (λ (n : ℕ). n + (mapped_block v.blocks j).pages * size) (same j).same_offset
    ∙ ap (λ (n : ℕ). (mapped_block w.blocks j).pages_at + n * size) (same j).same_pages) in
    record {
      is_table = subst IsTable (sym (same_table w p.block p.page bit b puts)) is.is_table;
      are_laid = λ i lt.
          let l : IsLaid w i = is.are_laid i (omega arith) in
          laid_at v i (head_offset w i) (mapped_block v.blocks i) refl (head i)
          ((same i).same_len ∙ l.has_bitmap ∙ ap bitmap_len (sym (same i).same_pages))
          ((same i).same_offset ∙ l.has_pages
          ∙ ap (λ (x : List ℕ). aligned (head_offset w i + head_len x + bitmap_len (mapped_block w.blocks i).pages)) (sym (same i).same_id)
          ∙ ap (λ (n : ℕ). aligned (head_offset w i + head_len (mapped_block v.blocks i).id + bitmap_len n)) (sym (same i).same_pages));
      no_tails = λ i q lt past.
          let r : Place = place_at i q in
          elim (cases_Bool (place_eq r p)) [
            | inl here ↦
                let e : r ≡ p = place_eq-true r p here in
                absurd (omega (arith, at.1, ap (λ (x : Place). x.page) e, ap (λ (x : Place). (mapped_block w.blocks x.block).pages) e, (same i).same_pages))
            | inr other ↦ bit_is w p r bit b at.0 puts ∙ cond-false _ _ _ other
                ∙ is.no_tails i q (omega arith) (omega (arith, (same i).same_pages))
          ];
      has_offsets = λ i le. omega (arith, head i, is.has_offsets i (omega arith));
    }

-- the memory with the page's content
pub mark_stands : (old new : MappedWriting) (p : Place) (bit : Bool) (m : Image) (content : List ℕ) → PutsBit old p bit new → StandsFor old m
    → IsPlace (written_table old) p → length content ≡ old.given.page_size → (bit ≡ false → content ≡ zero_page old.given.page_size)
    → StandsFor new (with_page m p content)
mark_stands old new p bit m content puts stands place len zeros =
    let size : m.table.page_size ≡ old.given.page_size = ap (λ (t : RamTable). t.page_size) stands.same_table in
    let f : Place → List ℕ = λ q. cond (place_eq q p) content (content_at m q) in
    record {
      is_image = image_from m.table f (λ q is. elim (cases_Bool (place_eq q p)) [
        | inl here ↦ ap length (cond-true _ content (content_at m q) here) ∙ len ∙ sym size
        | inr other ↦ ap length (cond-false _ content (content_at m q) other) ∙ content_size m q stands.is_image is
      ]);
      same_table = stands.same_table ∙ sym puts.same_table;
      are_zeros = λ q is unset. content_at-image_of m.table f q is ∙ elim (cases_Bool (place_eq q p)) [
        | inl here ↦ cond-true _ content (content_at m q) here
            ∙ zeros (sym (cond-true _ bit (has_bit old q) here) ∙ sym (puts.bits q) ∙ unset) ∙ ap zero_page (sym size)
        | inr other ↦ cond-false _ content (content_at m q) other
            ∙ stands.are_zeros q is (sym (cond-false _ bit (has_bit old q) other) ∙ sym (puts.bits q) ∙ unset)
      ];
    }

zeros_are : (xs : List ℕ) → IsZero xs → xs ≡ replicate (length xs) 0
zeros_are [] zeros = refl
zeros_are (x ∷ xs) zeros =
    let first : x ≡ 0 = All-head (λ b. b ≡ 0) x xs zeros in
    rw (← zeros_are xs (All-tail (λ b. b ≡ 0) x xs zeros)) (ap (λ (n : ℕ). n ∷ xs) first)

-- a page whose bit is cleared since its content was found to be zeros is zeros
pub zeros_found : (content : List ℕ) (size : ℕ) → length content ≡ size → not (is_zero content) ≡ false → content ≡ zero_page size
zeros_found content size len found = zeros_are content (zeros_from_test content (not-false _ found)) ∙ ap zero_page len
