-- The blocks of a writer by their numbers, and the offsets of their heads and pages.
use Rattle.std.proofs.Common.{ℕ, zero, suc, ◌≡◌, ◌+◌, ◌-◌, ◌*◌, ◌%◌, ◌<◌, ◌≤◌, ◌==◌, true, false, List, length, map, sym, ap, subst, ◌∙◌, inl, inr, arith}
use Rattle.std.proofs.lemmas.Bool.{cases_eq, cond-true, cond-false, eq-eqb, ne_eqb}
use Rattle.std.proofs.lemmas.List.{length-map}
use Rattle.mig_mem.specs.PageSize.{IsPageSize}
use Rattle.mig_mem.specs.RamTable.{Block}
use Rattle.mig_mem.proofs.Blocks.{block_id_length}
use Rattle.mig_mapped.specs.declared.settings.MappedSettings.{MappedSettings}
use Rattle.mig_mapped.specs.Bitmap.{bitmap_len}
use Rattle.mig_mapped.specs.Block.{MappedBlock, ram_block, mapped_block, end_of}
use Rattle.mig_mapped.specs.Head.{most_file_bytes}
use Rattle.mig_mapped.specs.Write.{MappedWriting, written_table, head_offset, head_len, bitmap_offset, aligned, IsLaid, AreLaid, IsWriting}
use Rattle.mig_mapped.proofs.Blocks.{block_mapped}

-- the pages of a block lie at a multiple of the page size
pub aligned_whole : (size offset : ℕ) → IsPageSize size → aligned offset % size ≡ 0
aligned_whole size offset is = elim is [
  | inl e ↦ let whole : aligned offset % 4096 ≡ 0 = omega arith in ap (λ (n : ℕ). aligned offset % n) e ∙ whole
  | inr e ↦ let whole : aligned offset % 8192 ≡ 0 = omega arith in ap (λ (n : ℕ). aligned offset % n) e ∙ whole
]

-- and not before the offset that they were laid after
pub aligned_after : (offset : ℕ) → offset ≤ aligned offset
aligned_after offset = omega arith

-- the head after a block's pages
pub head_after : (w : MappedWriting) (i : ℕ) → head_offset w (i + 1) ≡ end_of w.given.page_size (mapped_block w.blocks i)
head_after w i =
    let some : (i + 1 == 0) ≡ false = ne_eqb (i + 1) 0 (λ e. absurd (omega arith)) in
    let before : i + 1 - 1 ≡ i = omega arith in
    cond-false _ _ _ some ∙ ap (λ (n : ℕ). end_of w.given.page_size (mapped_block w.blocks n)) before

-- heads lie at the same offset where the pages before them end at the same one
pub same_head : (v w : MappedWriting) (i : ℕ) → v.place ≡ w.place
    → ((j : ℕ) → j < i → end_of v.given.page_size (mapped_block v.blocks j) ≡ end_of w.given.page_size (mapped_block w.blocks j))
    → head_offset v i ≡ head_offset w i
same_head v w i place ends = elim (cases_eq i 0) [
  | inl first ↦
      let test : (i == 0) ≡ true = eq-eqb i 0 first in
      cond-true _ _ _ test ∙ place ∙ sym (cond-true _ _ _ test)
  | inr other ↦
      let test : (i == 0) ≡ false = ne_eqb i 0 other in
      cond-false _ _ _ test ∙ ends (i - 1) (omega arith) ∙ sym (cond-false _ _ _ test)
]

-- the blocks with a number are laid, and of one RAM block
pub record AreAlike (v w : MappedWriting) (i : ℕ) : Type 0 where
  pub laid : IsLaid v i
  pub laid_too : IsLaid w i
  pub same_block : ram_block (mapped_block v.blocks i) ≡ ram_block (mapped_block w.blocks i)

-- the bitmap is at one offset, and the pages end at one
same_end : (v w : MappedWriting) (i : ℕ) → v.given ≡ w.given → head_offset v i ≡ head_offset w i → AreAlike v w i
    → end_of v.given.page_size (mapped_block v.blocks i) ≡ end_of w.given.page_size (mapped_block w.blocks i)
same_end v w i given head are =
    let b : MappedBlock = mapped_block v.blocks i in
    let c : MappedBlock = mapped_block w.blocks i in
    let id : b.id ≡ c.id = ap (λ (x : Block). x.id) are.same_block in
    let pages : b.pages ≡ c.pages = ap (λ (x : Block). x.pages) are.same_block in
    let at : b.pages_at ≡ c.pages_at = are.laid.has_pages
    ∙ ap (λ (n : ℕ). aligned (n + head_len b.id + bitmap_len b.pages)) head
    ∙ ap (λ (x : List ℕ). aligned (head_offset w i + head_len x + bitmap_len b.pages)) id
    ∙ ap (λ (n : ℕ). aligned (head_offset w i + head_len c.id + bitmap_len n)) pages ∙ sym are.laid_too.has_pages in
    ap (λ (g : MappedSettings). end_of g.page_size b) given
    ∙ ap (λ (n : ℕ). n + b.pages * w.given.page_size) at ∙ ap (λ (n : ℕ). c.pages_at + n * w.given.page_size) pages

-- the heads of like blocks are at the same offsets
pub same_heads : (v w : MappedWriting) (n : ℕ) → v.given ≡ w.given → v.place ≡ w.place → ((i : ℕ) → i < n → AreAlike v w i)
    → head_offset v n ≡ head_offset w n
same_heads v w zero given place are = same_head v w 0 place (λ j lt. absurd (omega arith))
same_heads v w (suc n) given place are =
    let before : head_offset v n ≡ head_offset w n = same_heads v w n given place (λ i lt. are i (omega arith)) in
    let next : suc n ≡ n + 1 = omega arith in
    ap (head_offset v) next ∙ head_after v n ∙ same_end v w n given before (are n (omega arith)) ∙ sym (head_after w n)
    ∙ ap (head_offset w) (sym next)

-- later heads are at later offsets
pub heads_grow : (w : MappedWriting) (i n : ℕ) → AreLaid w → i + n ≤ length w.blocks → head_offset w i ≤ head_offset w (i + n)
heads_grow w i zero laid le =
    let at : i + 0 ≡ i = omega arith in
    omega (arith, ap (head_offset w) at)
heads_grow w i (suc n) laid le =
    let k : ℕ = i + n in
    let next : i + suc n ≡ k + 1 = omega arith in
    let l : IsLaid w k = laid k (omega arith) in
    omega (
      arith,
      heads_grow w i n laid (omega arith),
      ap (head_offset w) next,
      head_after w k,
      l.has_pages,
      aligned_after (bitmap_offset w k + bitmap_len (mapped_block w.blocks k).pages),
    )

-- a block is laid if its bitmap and its pages' offset are those that its head's offset gives
pub laid_at : (w : MappedWriting) (i offset : ℕ) (b : MappedBlock) → mapped_block w.blocks i ≡ b → head_offset w i ≡ offset
    → length b.bitmap ≡ bitmap_len b.pages → b.pages_at ≡ aligned (offset + head_len b.id + bitmap_len b.pages) → IsLaid w i
laid_at w i offset b is at bitmap pages = record {
  has_bitmap = subst (λ (x : MappedBlock). length x.bitmap ≡ bitmap_len x.pages) (sym is) bitmap;
  has_pages = subst (λ (x : MappedBlock). x.pages_at ≡ aligned (head_offset w i + head_len x.id + bitmap_len x.pages)) (sym is)
      (pages ∙ ap (λ (n : ℕ). aligned (n + head_len b.id + bitmap_len b.pages)) (sym at));
}

-- the end of a block's pages is in a file
pub pages_near : (w : MappedWriting) (i : ℕ) → IsWriting w → i < length w.blocks → end_of w.given.page_size (mapped_block w.blocks i) < most_file_bytes
pages_near w i is lt = omega (arith, is.has_offsets (i + 1) (omega arith), head_after w i)

-- and so is its bitmap
pub bitmap_near : (w : MappedWriting) (i : ℕ) → IsWriting w → i < length w.blocks → bitmap_offset w i < most_file_bytes
bitmap_near w i is lt =
    let len : ℕ = bitmap_len (mapped_block w.blocks i).pages in
    omega (arith, pages_near w i is lt, (is.are_laid i lt).has_pages, aligned_after (bitmap_offset w i + len))

-- a block's id fits a byte's length
pub id_short : (w : MappedWriting) (i : ℕ) → IsWriting w → i < length w.blocks → length (mapped_block w.blocks i).id ≤ 255
id_short w i is lt =
    let in_table : i < length (map ram_block w.blocks) = omega (arith, length-map w.blocks ram_block) in
    omega (arith, (block_id_length (written_table w) i is.is_table in_table).1, ap (λ (b : Block). length b.id) (block_mapped w.blocks i lt))
