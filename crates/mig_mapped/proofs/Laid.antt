-- Blocks are laid into a file, one after another.
use Rattle.std.proofs.Common.{ℕ, ◌≡◌, ◌+◌, ◌-◌, ◌*◌, ◌^◌, ◌<◌, ◌≤◌, List, [], ◌∷◌, ◌++◌, length, map, take, replicate, refl, sym, ap, subst, ◌∙◌}
use Rattle.std.proofs.Common.{inl, inr, arith}
use Rattle.std.specs.Prelude.{Result, Ok, Err, IsErr, IsErrAnd, IfErr}
use Rattle.std.proofs.lemmas.Bool.{cases_lt}
use Rattle.std.proofs.lemmas.List.{length-append, length-map, length-replicate, map-append, take_all, take_more, get_or_past, get_or-take}
use Rattle.mig_mem.specs.PageSize.{IsPageSize}
use Rattle.mig_mem.specs.RamTable.{Block, RamTable, block, IsTable}
use Rattle.mig_mem.specs.Image.{zero_image, zero_page}
use Rattle.mig_mem.proofs.Images.{image_from, content_at-image_of}
use Rattle.mig_mem.proofs.Slotted.{length-zero_page}
use Rattle.mig_mapped.specs.declared.fault.MappedStop.{MappedStop}
use Rattle.mig_mapped.specs.declared.settings.WordOrder.{WordOrder}
use Rattle.mig_mapped.specs.declared.settings.MappedSettings.{MappedSettings}
use Rattle.mig_mapped.specs.Bitmap.{is_set, bitmap_len}
use Rattle.mig_mapped.specs.Block.{MappedBlock, ram_block, mapped_block, end_of}
use Rattle.mig_mapped.specs.Head.{most_file_bytes}
use Rattle.mig_mapped.specs.Write.{MappedWriting, head_offset, end_offset, head_len, aligned, IsLaid, AreLaid, IsBegun, StandsFor}
use Rattle.mig_mapped.specs.Write.{laid_block, IsWriting}
use Rattle.mig_mapped.proofs.Blocks.{block_mapped, before_last, the_last}
use Rattle.mig_mapped.proofs.Bits.{none_put}
use Rattle.mig_mapped.proofs.Offsets.{head_after, same_head, same_heads, heads_grow, laid_at}

-- ---- the blocks of a table

abbrev pub writing : MappedSettings → ℕ → List MappedBlock → MappedWriting
writing given place blocks = record { given = given; place = place; blocks = blocks }

-- These are the first blocks of a table, laid one after another, and without a bit.
pub record AreFirst (given : MappedSettings) (place : ℕ) (table : RamTable) (blocks : List MappedBlock) (next : ℕ) : Type 0 where
  pub same_blocks : map ram_block blocks ≡ take (length blocks) table.blocks
  pub are_laid : AreLaid (writing given place blocks)
  pub no_bits : (i : ℕ) → i < length blocks → (mapped_block blocks i).bitmap ≡ replicate (bitmap_len (mapped_block blocks i).pages) 0
  pub is_next : next ≡ end_offset (writing given place blocks)

pub none_laid : (given : MappedSettings) (place : ℕ) (table : RamTable) → AreFirst given place table [] place
none_laid given place table = record {
  same_blocks = refl;
  are_laid = λ i lt. absurd (omega arith);
  no_bits = λ i lt. absurd (omega arith);
  is_next = refl;
}

pub one_laid : (given : MappedSettings) (place : ℕ) (table : RamTable) (blocks : List MappedBlock) (next i : ℕ) (b : MappedBlock)
    → AreFirst given place table blocks next → length blocks ≡ i → i < length table.blocks → b ≡ laid_block (block table.blocks i) next
    → AreFirst given place table (blocks ++ b ∷ []) (end_of given.page_size b)
one_laid given place table blocks next i b are at lt is =
    let more : List MappedBlock = blocks ++ b ∷ [] in
    let v : MappedWriting = writing given place more in
    let w : MappedWriting = writing given place blocks in
    let none : Block = record { id = []; pages = 0 } in
    let long : length more ≡ i + 1 = omega (arith, length-append blocks (b ∷ [])) in
    let head : (j : ℕ) → j ≤ i → head_offset v j ≡ head_offset w j = λ j le. same_head v w j refl
    (λ k before. ap (end_of given.page_size) (before_last blocks b k (omega arith))) in
    let here : head_offset v i ≡ next = head i (omega arith) ∙ ap (head_offset w) (sym at) ∙ sym are.is_next in
    let last : mapped_block more i ≡ b = the_last blocks b i (sym at) in
    let end : head_offset v (i + 1) ≡ end_of given.page_size b = head_after v i ∙ ap (end_of given.page_size) last in
    let same : ram_block b ≡ block table.blocks i = ap ram_block is in
    record {
      same_blocks = map-append ram_block blocks (b ∷ []) ∙ ap (λ (l : List Block). l ++ ram_block b ∷ []) are.same_blocks
          ∙ ap (λ (x : Block). take (length blocks) table.blocks ++ x ∷ []) same
          ∙ ap (λ (n : ℕ). take n table.blocks ++ block table.blocks i ∷ []) at
          ∙ sym (take_more table.blocks i none lt) ∙ ap (λ (n : ℕ). take n table.blocks) (sym long);
      are_laid = λ j before. elim (cases_lt j i) [
        | inl old ↦
            let l : IsLaid w j = are.are_laid j (omega arith) in
            laid_at v j (head_offset w j) (mapped_block blocks j) (before_last blocks b j (omega arith)) (head j (omega arith)) l.has_bitmap l.has_pages
        | inr new ↦
            let j_is : j ≡ i = omega arith in
            laid_at v j next b (ap (mapped_block more) j_is ∙ last) (ap (head_offset v) j_is ∙ here)
            (subst (λ (x : MappedBlock). length x.bitmap ≡ bitmap_len x.pages) (sym is) (length-replicate (bitmap_len (block table.blocks i).pages) 0))
            (subst (λ (x : MappedBlock). x.pages_at ≡ aligned (next + head_len x.id + bitmap_len x.pages)) (sym is) refl)
      ];
      no_bits = λ j before. elim (cases_lt j i) [
        | inl old ↦ subst (λ (x : MappedBlock). x.bitmap ≡ replicate (bitmap_len x.pages) 0) (sym (before_last blocks b j (omega arith)))
            (are.no_bits j (omega arith))
        | inr new ↦
            let j_is : j ≡ i = omega arith in
            subst (λ (x : MappedBlock). x.bitmap ≡ replicate (bitmap_len x.pages) 0) (sym (ap (mapped_block more) j_is ∙ last))
            (subst (λ (x : MappedBlock). x.bitmap ≡ replicate (bitmap_len x.pages) 0) (sym is) refl)
      ];
      is_next = sym end ∙ ap (head_offset v) (sym long);
    }

-- ---- a writer that was just created

-- all blocks of the table were laid
pub all_begun : (order : WordOrder) (place : ℕ) (table : RamTable) (blocks : List MappedBlock) (next : ℕ)
    → AreFirst (record { page_size = table.page_size; order = order }) place table blocks next → length table.blocks ≤ length blocks
    → IsBegun order place table (writing (record { page_size = table.page_size; order = order }) place blocks)
all_begun order place table blocks next are all = record {
  has_given = refl;
  has_place = refl;
  has_table = ap (λ (l : List Block). record { page_size = table.page_size; blocks = l }) (are.same_blocks ∙ take_all (length blocks) table.blocks all);
  are_laid = are.are_laid;
  none_set = λ p. elim (cases_lt p.block (length blocks)) [
    | inl lt ↦ ap (λ (l : List ℕ). is_set order l p.page) (are.no_bits p.block lt)
        ∙ none_put order (bitmap_len (mapped_block blocks p.block).pages) p.page
    | inr past ↦ ap (λ (b : MappedBlock). is_set order b.bitmap p.page) (get_or_past blocks p.block _ past) ∙ none_put order 0 p.page
  ];
}

pub begun_writing : (order : WordOrder) (place : ℕ) (table : RamTable) (blocks : List MappedBlock) (next : ℕ) → next < most_file_bytes → IsTable table
    → AreFirst (record { page_size = table.page_size; order = order }) place table blocks next → length table.blocks ≤ length blocks
    → IsWriting (writing (record { page_size = table.page_size; order = order }) place blocks)
begun_writing order place table blocks next low is are all =
    let begun = all_begun order place table blocks next are all in
    let w : MappedWriting = writing (record { page_size = table.page_size; order = order }) place blocks in
    record {
      is_table = subst IsTable (sym begun.has_table) is;
      are_laid = are.are_laid;
      no_tails = λ i q lt past. begun.none_set (record { block = i; page = q });
      has_offsets = λ i le.
          let all_of : i + (length blocks - i) ≡ length blocks = omega arith in
          omega (arith, heads_grow w i (length blocks - i) are.are_laid (omega arith), ap (head_offset w) all_of, are.is_next);
    }

-- it stands for a memory of zeros
pub begun_zeros : (order : WordOrder) (place : ℕ) (table : RamTable) (w : MappedWriting) → IsBegun order place table w → StandsFor w (zero_image table)
begun_zeros order place table w begun = record {
  is_image = image_from table (λ _. zero_page table.page_size) (λ p is. length-zero_page table.page_size);
  same_table = sym begun.has_table;
  are_zeros = λ p is unset. content_at-image_of table (λ _. zero_page table.page_size) p is;
}

-- a page of a lawful table has 4 KiB or more
pub few_pages : (pages size : ℕ) → IsPageSize size → pages * size ≤ 2 ^ 40 → pages ≤ 2 ^ 28
few_pages pages size is le = elim is [
  | inl e ↦ let small : pages * 4096 ≤ 2 ^ 40 = subst (λ (n : ℕ). pages * n ≤ 2 ^ 40) e le in omega arith
  | inr e ↦ let large : pages * 8192 ≤ 2 ^ 40 = subst (λ (n : ℕ). pages * n ≤ 2 ^ 40) e le in omega arith
]

-- ---- no file has room for a writer

-- each writer of the table that was just created has the first heads where these are
begun_head : (order : WordOrder) (place : ℕ) (table : RamTable) (blocks : List MappedBlock) (next : ℕ) (w : MappedWriting)
    → AreFirst (record { page_size = table.page_size; order = order }) place table blocks next → IsBegun order place table w
    → length blocks ≤ length w.blocks → head_offset w (length blocks) ≡ next
begun_head order place table blocks next w are begun le =
    let given : MappedSettings = record { page_size = table.page_size; order = order } in
    let v : MappedWriting = writing given place blocks in
    let none : Block = record { id = []; pages = 0 } in
    same_heads w v (length blocks) begun.has_given begun.has_place (λ j lt. record {
      laid = begun.are_laid j (omega arith);
      laid_too = are.are_laid j lt;
      same_block = sym (block_mapped w.blocks j (omega arith)) ∙ ap (λ (t : RamTable). block t.blocks j) begun.has_table
          ∙ sym (get_or-take (length blocks) table.blocks j none lt) ∙ ap (λ (l : List Block). block l j) (sym are.same_blocks)
          ∙ block_mapped blocks j lt;
    }) ∙ sym are.is_next

-- and ends at 2^63 or later if the last of these heads is there
pub lacks_room : (order : WordOrder) (place : ℕ) (table : RamTable) (blocks : List MappedBlock) (next : ℕ)
    → AreFirst (record { page_size = table.page_size; order = order }) place table blocks next → length blocks ≤ length table.blocks
    → most_file_bytes ≤ next → (w : MappedWriting) → IsBegun order place table w → most_file_bytes ≤ end_offset w
lacks_room order place table blocks next are few past w begun =
    let all : length w.blocks ≡ length table.blocks =
    sym (length-map w.blocks ram_block) ∙ ap (λ (t : RamTable). length t.blocks) begun.has_table in
    let rest : ℕ = length w.blocks - length blocks in
    let at_end : length blocks + rest ≡ length w.blocks = omega arith in
    omega (
      arith,
      begun_head order place table blocks next w are begun (omega arith),
      heads_grow w (length blocks) rest begun.are_laid (omega arith),
      ap (head_offset w) at_end,
    )

-- the error that a `?` returns is the one that it found
pub returned : {T : Type 0} (r : Result T MappedStop) (e : MappedStop) (Q : MappedStop → Type 0) → IsErr r × IsErrAnd r (λ x. x ≡ e) → Q e → IfErr r Q
returned (Ok x) e Q h q = tt
returned (Err y) e Q h q = subst Q (sym h.1) q
