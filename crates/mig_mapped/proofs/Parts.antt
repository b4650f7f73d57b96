-- A file with the parts of each block at their offsets is read without a fault, and stands for the
-- memory.
use Rattle.std.proofs.Common.{ℕ, zero, suc, ◌≡◌, ◌≢◌, ◌+◌, ◌-◌, ◌*◌, ◌/◌, ◌%◌, ◌^◌, ◌<◌, ◌≤◌, Bool, true, false, List, [], ◌∷◌, ◌++◌, length, map, take, drop}
use Rattle.std.proofs.Common.{get_or, refl, sym, ap, subst, ◌∙◌, inl, inr, append_assoc, append-nil, arith}
use Rattle.std.specs.Prelude.{slice_range}
use Rattle.std.specs.Int.{w32, w64, from_be_bytes}
use Rattle.std.specs.List.{list_any, range_with_len}
use Rattle.std.specs.Str.{bytes_eq}
use Rattle.std.proofs.Math.Nat.{mul-div_cancel, mul-mod_left}
use Rattle.std.proofs.Math.Seq.{take-append_seam}
use Rattle.std.proofs.lemmas.Bool.{cases_Bool, cond-true, cond-false, le-ltb, or_from}
use Rattle.std.proofs.lemmas.Nat.{from_be_bytes-to_be_bytes_4, from_be_bytes-to_be_bytes_8}
use Rattle.std.proofs.lemmas.List.{length-append, length-map, take-append-drop, drop-drop, drop_at, get_or_append_left, get_or-append-add}
use Rattle.std.proofs.lemmas.List.Sums.{sum_by-cons}
use Rattle.std.proofs.lemmas.Slice.Eq.{bytes_eq-Decides}
use Rattle.mig_mem.specs.declared.place.Place.{Place}
use Rattle.mig_mem.specs.PageSize.{IsPageSize}
use Rattle.mig_mem.specs.RamTable.{Block, RamTable, block, is_id, total_pages, IsTable}
use Rattle.mig_mem.specs.Place.{IsPlace}
use Rattle.mig_mem.specs.Image.{Image, content_at, image_of, zero_page}
use Rattle.mig_mem.proofs.PageSizes.{page_size_some, page_size_small, page_before}
use Rattle.mig_mem.proofs.Images.{image_is, image_agree, content_size}
use Rattle.mig_stream.specs.Fields.{be32, be64, be32_at, be64_at}
use Rattle.mig_stream.specs.Text.{entry, total_bytes}
use Rattle.mig_stream.specs.Items.{id_in, length_in}
use Rattle.mig_mapped.specs.declared.settings.WordOrder.{WordOrder}
use Rattle.mig_mapped.specs.declared.settings.MappedSettings.{MappedSettings}
use Rattle.mig_mapped.specs.Bitmap.{is_set, bitmap_len, has_tail}
use Rattle.mig_mapped.specs.Block.{MappedBlock, ram_block, mapped_block, end_of, page_in}
use Rattle.mig_mapped.specs.Head.{MappedProgress, start, header_version, entry_len, bitmap_end, pages_in, bitmap_in, version_in, page_size_in}
use Rattle.mig_mapped.specs.Head.{bitmap_offset_in, pages_offset_in, most_file_bytes, has_id, block_in, after_block}
use Rattle.mig_mapped.specs.Reading.{rest_of, AreBlocks, after_blocks}
use Rattle.mig_mapped.specs.Write.{MappedWriting, written_table, head_offset, end_offset, head_len, offset_at, aligned, IsLaid, has_bit}
use Rattle.mig_mapped.specs.Write.{StandsFor, HasAt, HasParts, PartsAreRead, IsWriting}
use Rattle.mig_mapped.proofs.Heads.{IsHead}
use Rattle.mig_mapped.proofs.Longer.{head_none}
use Rattle.mig_mapped.proofs.Blocks.{block_mapped}
use Rattle.mig_mapped.proofs.Offsets.{head_after, aligned_whole, aligned_after}

-- ---- fields one after another

-- what is read where four bytes of a number follow, and what follows them
read32 : (bytes rest : List ℕ) (at n : ℕ) → drop at bytes ≡ be32 n ++ rest → n < 2 ^ 32 → be32_at at bytes ≡ n
unfolding be32_at
read32 bytes rest at n e small =
    let four : at + 4 - at ≡ 4 = omega arith in
    ap (λ (k : ℕ). from_be_bytes w32 (take k (drop at bytes))) four ∙ ap (λ (l : List ℕ). from_be_bytes w32 (take 4 l)) e
    ∙ from_be_bytes-to_be_bytes_4 n small

after32 : (bytes rest : List ℕ) (at next n : ℕ) → drop at bytes ≡ be32 n ++ rest → at + 4 ≡ next → drop next bytes ≡ rest
after32 bytes rest at next n e is = ap (λ (k : ℕ). drop k bytes) (sym is) ∙ sym (drop-drop 4 at bytes) ∙ ap (drop 4) e

-- and of eight bytes
read64 : (bytes rest : List ℕ) (at n : ℕ) → drop at bytes ≡ be64 n ++ rest → n < 2 ^ 64 → be64_at at bytes ≡ n
unfolding be64_at
read64 bytes rest at n e small =
    let eight : at + 8 - at ≡ 8 = omega arith in
    ap (λ (k : ℕ). from_be_bytes w64 (take k (drop at bytes))) eight ∙ ap (λ (l : List ℕ). from_be_bytes w64 (take 8 l)) e
    ∙ from_be_bytes-to_be_bytes_8 n small

after64 : (bytes rest : List ℕ) (at next n : ℕ) → drop at bytes ≡ be64 n ++ rest → at + 8 ≡ next → drop next bytes ≡ rest
after64 bytes rest at next n e is = ap (λ (k : ℕ). drop k bytes) (sym is) ∙ sym (drop-drop 8 at bytes) ∙ ap (drop 8) e

-- what bytes begin with, from an offset on
front_at : (file bytes : List ℕ) (offset : ℕ) → HasAt file offset bytes → drop offset file ≡ bytes ++ drop (length bytes) (drop offset file)
front_at file bytes offset has =
    let len : offset + length bytes - offset ≡ length bytes = omega arith in
    let front : take (length bytes) (drop offset file) ≡ bytes = ap (λ (k : ℕ). take k (drop offset file)) (sym len) ∙ has in
    sym (take-append-drop (length bytes) (drop offset file)) ∙ ap (λ (l : List ℕ). l ++ drop (length bytes) (drop offset file)) front

-- ---- the head of a block

-- the numbers in a head, and where it lies in the file
record IsSpelled (page_size offset : ℕ) (b : MappedBlock) : Type 0 where
  has_size : IsPageSize page_size
  has_bitmap : length b.bitmap ≡ bitmap_len b.pages
  is_after : offset + head_len b.id + bitmap_len b.pages ≤ b.pages_at
  is_in_file : end_of page_size b < most_file_bytes

-- a header, as it is written
abbrev header_of : ℕ → ℕ → MappedBlock → List ℕ
header_of page_size offset b = be32 header_version ++ be64 page_size ++ be64 (offset + head_len b.id) ++ be64 b.pages_at

-- an entry and a header
abbrev head_of : ℕ → ℕ → MappedBlock → List ℕ
head_of page_size offset b =
    entry page_size (ram_block b) ++ be32 header_version ++ be64 page_size ++ be64 (offset + head_len b.id) ++ be64 b.pages_at

-- the parts of a head are those of a block
record HasFields (page_size offset : ℕ) (b : MappedBlock) (bytes : List ℕ) : Type 0 where
  entry_is : entry_len bytes ≡ 9 + length b.id
  id_is : id_in bytes ≡ b.id
  len_is : length_in bytes ≡ b.pages * page_size
  version_is : version_in bytes ≡ header_version
  size_is : page_size_in bytes ≡ page_size
  bitmap_at : bitmap_offset_in bytes ≡ offset + head_len b.id
  pages_at : pages_offset_in bytes ≡ b.pages_at
  pages_are : pages_in page_size bytes ≡ b.pages
  end_is : bitmap_end page_size bytes ≡ head_len b.id + bitmap_len b.pages
  bitmap_is : bitmap_in page_size bytes ≡ b.bitmap
  is_long : head_len b.id + bitmap_len b.pages ≤ length bytes

head_apart : (page_size offset : ℕ) (b : MappedBlock) → head_of page_size offset b ≡ entry page_size (ram_block b) ++ header_of page_size offset b
head_apart page_size offset b =
    let front : List ℕ = entry page_size (ram_block b) in
    let place : List ℕ = be64 (offset + head_len b.id) in
    let pages : List ℕ = be64 b.pages_at in
    ap (λ (l : List ℕ). l ++ place ++ pages) (append_assoc front (be32 header_version) (be64 page_size))
    ∙ ap (λ (l : List ℕ). l ++ pages) (append_assoc front (be32 header_version ++ be64 page_size) place)
    ∙ append_assoc front (be32 header_version ++ be64 page_size ++ place) pages

length-head : (page_size offset : ℕ) (b : MappedBlock) → length (head_of page_size offset b) ≡ head_len b.id
length-head page_size offset b = omega (
  arith,
  ap length (head_apart page_size offset b),
  length-append (entry page_size (ram_block b)) (header_of page_size offset b),
  length-append b.id (be64 (b.pages * page_size)),
)

fields_read : (page_size offset : ℕ) (b : MappedBlock) (bytes more : List ℕ) → IsSpelled page_size offset b
    → bytes ≡ head_of page_size offset b ++ (b.bitmap ++ more) → HasFields page_size offset b bytes
fields_read page_size offset b bytes more is e =
    let n : ℕ = length b.id in
    let len : ℕ = b.pages * page_size in
    let tail : List ℕ = b.bitmap ++ more in
    let fields : List ℕ = header_of page_size offset b in
    let small : page_size ≤ 8192 = page_size_small page_size is.has_size in
    let some : 0 < page_size = page_size_some page_size is.has_size in
    let apart : bytes ≡ (n ∷ b.id) ++ (be64 len ++ (fields ++ tail)) =
    e ∙ ap (λ (l : List ℕ). l ++ tail) (head_apart page_size offset b)
    ∙ append_assoc (entry page_size (ram_block b)) fields tail ∙ append_assoc (n ∷ b.id) (be64 len) (fields ++ tail) in
    let first : get_or bytes 0 0 ≡ n = ap (λ (l : List ℕ). get_or l 0 0) apart in
    let after_byte : drop 1 bytes ≡ b.id ++ (be64 len ++ (fields ++ tail)) = ap (drop 1) apart in
    let one : 1 + n - 1 ≡ n = omega arith in
    let at_len : drop (1 + n) bytes ≡ be64 len ++ (fields ++ tail) =
    ap (drop (1 + n)) apart ∙ drop_at (n ∷ b.id) (be64 len ++ (fields ++ tail)) (1 + n) (omega arith) in
    let at_version : drop (9 + n) bytes ≡ fields ++ tail = after64 bytes (fields ++ tail) (1 + n) (9 + n) len at_len (omega arith) in
    let at_size : drop (9 + n + 4) bytes ≡ be64 page_size ++ (be64 (offset + head_len b.id) ++ (be64 b.pages_at ++ tail)) =
    after32 bytes (be64 page_size ++ (be64 (offset + head_len b.id) ++ (be64 b.pages_at ++ tail))) (9 + n) (9 + n + 4) header_version at_version refl in
    let at_bitmap : drop (9 + n + 12) bytes ≡ be64 (offset + head_len b.id) ++ (be64 b.pages_at ++ tail) =
    after64 bytes (be64 (offset + head_len b.id) ++ (be64 b.pages_at ++ tail)) (9 + n + 4) (9 + n + 12) page_size at_size (omega arith) in
    let at_pages : drop (9 + n + 20) bytes ≡ be64 b.pages_at ++ tail =
    after64 bytes (be64 b.pages_at ++ tail) (9 + n + 12) (9 + n + 20) (offset + head_len b.id) at_bitmap (omega arith) in
    let at_tail : drop (9 + n + 28) bytes ≡ tail = after64 bytes tail (9 + n + 20) (9 + n + 28) b.pages_at at_pages (omega arith) in
    let entry_is : entry_len bytes ≡ 9 + n = ap (λ (k : ℕ). 9 + k) first in
    let len_is : length_in bytes ≡ len = ap (λ (k : ℕ). be64_at (1 + k) bytes) first
    ∙ read64 bytes (fields ++ tail) (1 + n) len at_len (omega (arith, is.is_in_file)) in
    let pages_are : pages_in page_size bytes ≡ b.pages = ap (λ (k : ℕ). k / page_size) len_is ∙ mul-div_cancel b.pages some in
    let end_is : bitmap_end page_size bytes ≡ head_len b.id + bitmap_len b.pages =
    ap (λ (k : ℕ). k + 28 + bitmap_len (pages_in page_size bytes)) entry_is ∙ ap (λ (k : ℕ). 9 + n + 28 + bitmap_len k) pages_are in
    let count : 9 + n + 28 + bitmap_len b.pages - (9 + n + 28) ≡ length b.bitmap = omega (arith, is.has_bitmap) in
    record {
      entry_is = entry_is;
      id_is = ap (λ (k : ℕ). slice_range bytes 1 (1 + k)) first ∙ ap (λ (k : ℕ). take k (drop 1 bytes)) one
          ∙ ap (take n) after_byte ∙ take-append_seam b.id (be64 len ++ (fields ++ tail));
      len_is = len_is;
      version_is = ap (λ (k : ℕ). be32_at k bytes) entry_is
          ∙ read32 bytes (be64 page_size ++ (be64 (offset + head_len b.id) ++ (be64 b.pages_at ++ tail))) (9 + n) header_version at_version (omega arith);
      size_is = ap (λ (k : ℕ). be64_at (k + 4) bytes) entry_is
          ∙ read64 bytes (be64 (offset + head_len b.id) ++ (be64 b.pages_at ++ tail)) (9 + n + 4) page_size at_size (omega arith);
      bitmap_at = ap (λ (k : ℕ). be64_at (k + 12) bytes) entry_is
          ∙ read64 bytes (be64 b.pages_at ++ tail) (9 + n + 12) (offset + head_len b.id) at_bitmap (omega (arith, is.is_after, is.is_in_file));
      pages_at = ap (λ (k : ℕ). be64_at (k + 20) bytes) entry_is ∙ read64 bytes tail (9 + n + 20) b.pages_at at_pages (omega (arith, is.is_in_file));
      pages_are = pages_are;
      end_is = end_is;
      bitmap_is = ap (λ (k : ℕ). slice_range bytes (k + 28) (bitmap_end page_size bytes)) entry_is
          ∙ ap (λ (k : ℕ). slice_range bytes (9 + n + 28) k) end_is ∙ ap (λ (k : ℕ). take k (drop (9 + n + 28) bytes)) count
          ∙ ap (take (length b.bitmap)) at_tail ∙ take-append_seam b.bitmap more;
      is_long = omega (
        arith,
        ap length e,
        length-append (head_of page_size offset b) tail,
        length-append b.bitmap more,
        length-head page_size offset b,
        is.has_bitmap,
      );
    }

-- ---- the blocks, one after another

not-true-is : (t : Bool) → (t ≡ true → ⊥) → t ≡ false
not-true-is true fails = absurd (fails refl)
not-true-is false fails = refl

-- a test that no number from here on passes passes none of a range
none_in_range : (test : ℕ → Bool) (from count : ℕ) → ((q : ℕ) → from ≤ q → test q ≡ false) → list_any test (range_with_len from count) ≡ false
none_in_range test from zero none = refl
none_in_range test from (suc count) none = or_from (test from) (list_any test (range_with_len (from + 1) count)) (none from (omega arith))
    (none_in_range test (from + 1) count (λ q le. none q (omega arith)))

-- These blocks follow those that were read, and the others of the writer's come after them.
record Follow (w : MappedWriting) (c : MappedProgress) (bs : List MappedBlock) : Type 0 where
  same_given : c.given ≡ w.given
  are_all : w.blocks ≡ c.blocks ++ bs
  same_place : c.place ≡ head_offset w (length c.blocks)
  same_left : c.left ≡ total_pages (map ram_block bs) * w.given.page_size

next_is : (w : MappedWriting) (c : MappedProgress) (b : MappedBlock) (bs : List MappedBlock) → w.blocks ≡ c.blocks ++ b ∷ bs
    → mapped_block w.blocks (length c.blocks) ≡ b
next_is w c b bs all =
    let none : MappedBlock = record { id = []; pages = 0; bitmap = []; pages_at = 0 } in
    let at : length c.blocks ≡ length c.blocks + 0 = omega arith in
    ap (λ (l : List MappedBlock). mapped_block l (length c.blocks)) all
    ∙ ap (λ (n : ℕ). mapped_block (c.blocks ++ b ∷ bs) n) at ∙ get_or-append-add c.blocks (b ∷ bs) 0 none

next_lt : (w : MappedWriting) (c : MappedProgress) (b : MappedBlock) (bs : List MappedBlock) → w.blocks ≡ c.blocks ++ b ∷ bs → length c.blocks < length w.blocks
next_lt w c b bs all = omega (arith, ap length all, length-append c.blocks (b ∷ bs))

-- no block has an id if each has another
no_id : (blocks : List MappedBlock) (id : List ℕ) → ((i : ℕ) → i < length blocks → (mapped_block blocks i).id ≢ id) → has_id blocks id ≡ false
no_id [] id others = refl
no_id (b ∷ blocks) id others = or_from (bytes_eq b.id id) (has_id blocks id)
    (not-true-is (bytes_eq b.id id) (λ t. others 0 (omega arith) ((bytes_eq-Decides b.id id).0 t)))
    (no_id blocks id (λ i lt. others (suc i) (omega arith)))

-- a bitmap without a bit past the last page has no tail
no_tail : (order : WordOrder) (bitmap : List ℕ) (pages : ℕ) → ((q : ℕ) → pages ≤ q → is_set order bitmap q ≡ false) → has_tail order bitmap pages ≡ false
no_tail order bitmap pages none = none_in_range (is_set order bitmap) pages (8 * bitmap_len pages - pages) none

-- the pages of one block more
more_pages : (b : MappedBlock) (bs : List MappedBlock) (size : ℕ)
    → total_pages (map ram_block (b ∷ bs)) * size ≡ b.pages * size + total_pages (map ram_block bs) * size
more_pages b bs size =
    let sum : total_pages (map ram_block (b ∷ bs)) ≡ b.pages + total_pages (map ram_block bs) =
    sum_by-cons (λ (x : Block). x.pages) (ram_block b) (map ram_block bs) in
    ap (λ (n : ℕ). n * size) sum ∙ omega arith

-- the blocks before have other ids
own_name : (w : MappedWriting) (c : MappedProgress) (b : MappedBlock) (bs : List MappedBlock) → IsTable (written_table w) → w.blocks ≡ c.blocks ++ b ∷ bs
    → has_id c.blocks b.id ≡ false
own_name w c b bs is all =
    no_id c.blocks b.id (λ i lt e.
    let here = next_lt w c b bs all in
    let before : mapped_block w.blocks i ≡ mapped_block c.blocks i =
    ap (λ (l : List MappedBlock). mapped_block l i) all ∙ get_or_append_left c.blocks (b ∷ bs) _ i lt in
    let apart = is.has_own_ids i (length c.blocks) (record { id = []; pages = 0 }) lt (omega (arith, length-map w.blocks ram_block)) in
    apart (ap (λ (x : Block). x.id) (block_mapped w.blocks i (omega arith)) ∙ ap (λ (x : MappedBlock). x.id) before ∙ e
    ∙ sym (ap (λ (x : Block). x.id) (block_mapped w.blocks (length c.blocks) here) ∙ ap (λ (x : MappedBlock). x.id) (next_is w c b bs all))))

-- a head that has the fields of the next block has no fault
head_is : (w : MappedWriting) (c : MappedProgress) (b : MappedBlock) (bs : List MappedBlock) (bytes : List ℕ) → IsWriting w → Follow w c (b ∷ bs)
    → HasFields w.given.page_size c.place b bytes → IsHead c bytes
head_is w c b bs bytes is follow has =
    let k : ℕ = length c.blocks in
    let lt : k < length w.blocks = next_lt w c b bs follow.are_all in
    let here : mapped_block w.blocks k ≡ b = next_is w c b bs follow.are_all in
    let size : w.given.page_size ≡ c.given.page_size = ap (λ (g : MappedSettings). g.page_size) (sym follow.same_given) in
    let is_block : block (map ram_block w.blocks) k ≡ ram_block b = block_mapped w.blocks k lt ∙ ap ram_block here in
    let in_table : k < length (map ram_block w.blocks) = omega (arith, length-map w.blocks ram_block) in
    let none : Block = record { id = []; pages = 0 } in
    let some : 0 < b.pages = omega (arith, is.is_table.has_pages k none in_table, ap (λ (x : Block). x.pages) is_block) in
    let l : IsLaid w k = is.are_laid k lt in
    let len : length_in bytes ≡ b.pages * w.given.page_size = has.len_is in
    let sized : (P : ℕ → Type 0) → P w.given.page_size → P c.given.page_size = λ P h. subst P size h in
    let some_bytes : w.given.page_size ≤ b.pages * w.given.page_size = omega (arith, page_before w.given.page_size b.pages 0 some) in
    let one : 0 < w.given.page_size = page_size_some w.given.page_size is.is_table.has_page_size in
    let end : bitmap_end c.given.page_size bytes ≡ head_len b.id + bitmap_len b.pages =
    sized (λ n. bitmap_end n bytes ≡ head_len b.id + bitmap_len b.pages) has.end_is in
    let offset : b.pages_at ≡ aligned (c.place + head_len b.id + bitmap_len b.pages) =
    subst (λ (x : MappedBlock). x.pages_at ≡ aligned (head_offset w k + head_len x.id + bitmap_len x.pages)) here l.has_pages
    ∙ ap (λ (n : ℕ). aligned (n + head_len b.id + bitmap_len b.pages)) (sym follow.same_place) in
    let after : c.place + head_len b.id + bitmap_len b.pages ≤ b.pages_at =
    omega (arith, offset, aligned_after (c.place + head_len b.id + bitmap_len b.pages)) in
    let in_file : b.pages_at + b.pages * w.given.page_size < most_file_bytes =
    omega (arith, is.has_offsets (k + 1) (omega arith), head_after w k, ap (end_of w.given.page_size) here) in
    record {
      entry = record {
        has_entry = omega (arith, has.entry_is, has.is_long);
        is_few = omega (arith, is.is_table.has_few, length-map w.blocks ram_block);
        has_name = ap is_id (has.id_is ∙ sym (ap (λ (x : Block). x.id) is_block)) ∙ is.is_table.has_ids k none in_table;
        is_own = ap (has_id c.blocks) has.id_is ∙ own_name w c b bs is.is_table follow.are_all;
        is_some = λ e. absurd (omega arith);
        is_whole = sized (λ n. length_in bytes % n ≡ 0) (ap (λ (n : ℕ). n % w.given.page_size) len ∙ mul-mod_left b.pages w.given.page_size);
        fits = omega (arith, len, follow.same_left, more_pages b bs w.given.page_size);
      };
      header = record {
        has_header = omega (arith, has.entry_is, has.is_long);
        has_version = has.version_is;
        has_size = has.size_is ∙ size;
        follows = has.bitmap_at ∙ omega (arith, has.entry_is);
        is_after = omega (arith, has.pages_at);
        is_aligned = sized (λ n. pages_offset_in bytes % n ≡ 0) (ap (λ (n : ℕ). n % w.given.page_size) (has.pages_at ∙ offset)
            ∙ aligned_whole w.given.page_size (c.place + head_len b.id + bitmap_len b.pages) is.is_table.has_page_size);
        is_in_file = omega (arith, has.pages_at, len);
      };
      bitmap = record {
        has_bitmap = omega (arith, end, has.is_long);
        has_none_after = sized (λ n. has_tail c.given.order (bitmap_in n bytes) (pages_in n bytes) ≡ false)
            (ap (λ (x : List ℕ). has_tail c.given.order x (pages_in w.given.page_size bytes)) has.bitmap_is
            ∙ ap (has_tail c.given.order b.bitmap) has.pages_are
            ∙ ap (λ (g : MappedSettings). has_tail g.order b.bitmap b.pages) follow.same_given
            ∙ no_tail w.given.order b.bitmap b.pages (λ q past. ap (λ (x : MappedBlock). is_set w.given.order x.bitmap q) (sym here)
            ∙ is.no_tails k q lt (omega (arith, ap (λ (x : MappedBlock). x.pages) here))));
      };
    }

-- and is that block's
block_read : (page_size offset : ℕ) (b : MappedBlock) (bytes : List ℕ) → HasFields page_size offset b bytes → block_in page_size bytes ≡ b
block_read page_size offset b bytes has =
    ap (λ (x : List ℕ). record { id = x; pages = pages_in page_size bytes; bitmap = bitmap_in page_size bytes; pages_at = pages_offset_in bytes }) has.id_is
    ∙ ap (λ (x : ℕ). record { id = b.id; pages = x; bitmap = bitmap_in page_size bytes; pages_at = pages_offset_in bytes }) has.pages_are
    ∙ ap (λ (x : List ℕ). record { id = b.id; pages = b.pages; bitmap = x; pages_at = pages_offset_in bytes }) has.bitmap_is
    ∙ ap (λ (x : ℕ). record { id = b.id; pages = b.pages; bitmap = b.bitmap; pages_at = x }) has.pages_at

-- what the file has at the next head
next_fields : (w : MappedWriting) (m : Image) (file : List ℕ) (c : MappedProgress) (b : MappedBlock) (bs : List MappedBlock) → IsWriting w → HasParts w m file
    → Follow w c (b ∷ bs) → HasFields w.given.page_size c.place b (rest_of file c)
next_fields w m file c b bs is parts follow =
    let k : ℕ = length c.blocks in
    let size : ℕ = w.given.page_size in
    let lt : k < length w.blocks = next_lt w c b bs follow.are_all in
    let here : mapped_block w.blocks k ≡ b = next_is w c b bs follow.are_all in
    let l : IsLaid w k = is.are_laid k lt in
    let head : HasAt file c.place (head_of size c.place b) =
    subst (λ (n : ℕ). HasAt file n (head_of size n b)) (sym follow.same_place)
    (subst (λ (x : MappedBlock). HasAt file (head_offset w k) (head_of size (head_offset w k) x)) here (parts.heads k lt)) in
    let bits : HasAt file (c.place + head_len b.id) b.bitmap =
    subst (λ (n : ℕ). HasAt file (n + head_len b.id) b.bitmap) (sym follow.same_place)
    (subst (λ (x : MappedBlock). HasAt file (head_offset w k + head_len x.id) x.bitmap) here (parts.bitmaps k lt)) in
    let more : List ℕ = drop (length b.bitmap) (drop (c.place + head_len b.id) file) in
    let behind : drop (length (head_of size c.place b)) (drop c.place file) ≡ b.bitmap ++ more =
    drop-drop (length (head_of size c.place b)) c.place file ∙ ap (λ (n : ℕ). drop (c.place + n) file) (length-head size c.place b)
    ∙ front_at file b.bitmap (c.place + head_len b.id) bits in
    let offset : b.pages_at ≡ aligned (c.place + head_len b.id + bitmap_len b.pages) =
    subst (λ (x : MappedBlock). x.pages_at ≡ aligned (head_offset w k + head_len x.id + bitmap_len x.pages)) here l.has_pages
    ∙ ap (λ (n : ℕ). aligned (n + head_len b.id + bitmap_len b.pages)) (sym follow.same_place) in
    let spelled : IsSpelled size c.place b = record {
      has_size = is.is_table.has_page_size;
      has_bitmap = subst (λ (x : MappedBlock). length x.bitmap ≡ bitmap_len x.pages) here l.has_bitmap;
      is_after = omega (arith, offset, aligned_after (c.place + head_len b.id + bitmap_len b.pages));
      is_in_file = omega (arith, is.has_offsets (k + 1) (omega arith), head_after w k, ap (end_of size) here);
    } in
    fields_read size c.place b (rest_of file c) more spelled
    (front_at file (head_of size c.place b) c.place head ∙ ap (λ (x : List ℕ). head_of size c.place b ++ x) behind)

next_follow : (w : MappedWriting) (c : MappedProgress) (b : MappedBlock) (bs : List MappedBlock) → Follow w c (b ∷ bs) → Follow w (after_block c b) bs
next_follow w c b bs follow =
    let k : ℕ = length c.blocks in
    let size : w.given.page_size ≡ c.given.page_size = ap (λ (g : MappedSettings). g.page_size) (sym follow.same_given) in
    let long : k + 1 ≡ length (c.blocks ++ b ∷ []) = omega (arith, length-append c.blocks (b ∷ [])) in
    record {
      same_given = follow.same_given;
      are_all = follow.are_all ∙ sym (append_assoc c.blocks (b ∷ []) bs);
      same_place = ap (λ (n : ℕ). end_of n b) (sym size) ∙ ap (end_of w.given.page_size) (sym (next_is w c b bs follow.are_all))
          ∙ sym (head_after w k) ∙ ap (head_offset w) long;
      same_left = ap (λ (n : ℕ). c.left - b.pages * n) (sym size) ∙ omega (arith, follow.same_left, more_pages b bs w.given.page_size);
    }

-- what is known of the blocks from here on
record AreRead (w : MappedWriting) (file : List ℕ) (c : MappedProgress) (bs : List MappedBlock) : Type 0 where
  are_blocks : AreBlocks file c bs
  none_left : (after_blocks c bs).left ≡ 0
  at_end : (after_blocks c bs).place ≡ end_offset w

all_read : (w : MappedWriting) (m : Image) (file : List ℕ) (c : MappedProgress) (bs : List MappedBlock) → IsWriting w → HasParts w m file → Follow w c bs
    → AreRead w file c bs
all_read w m file c [] is parts follow = record {
  are_blocks = tt;
  none_left = omega (arith, follow.same_left);
  at_end = follow.same_place ∙ ap (λ (l : List MappedBlock). head_offset w (length l)) (sym (follow.are_all ∙ append-nil c.blocks));
}
all_read w m file c (b ∷ bs) is parts follow =
    let rest : List ℕ = rest_of file c in
    let size : w.given.page_size ≡ c.given.page_size = ap (λ (g : MappedSettings). g.page_size) (sym follow.same_given) in
    let has : HasFields w.given.page_size c.place b rest = next_fields w m file c b bs is parts follow in
    let head : IsHead c rest = head_is w c b bs rest is follow has in
    let more : AreRead w file (after_block c b) bs = all_read w m file (after_block c b) bs is parts (next_follow w c b bs follow) in
    let some : c.left ≢ 0 = λ e. absurd (omega (arith, head.entry.fits, head.entry.is_some)) in
    record {
      are_blocks = (
        some,
        head_none c rest head,
        sym (ap (λ (n : ℕ). block_in n rest) (sym size) ∙ block_read w.given.page_size c.place b rest has),
        more.are_blocks,
      );
      none_left = more.none_left;
      at_end = more.at_end;
    }

-- ---- the memory

page_is : (w : MappedWriting) (m : Image) (file : List ℕ) (p : Place) → StandsFor w m → HasParts w m file → IsPlace m.table p
    → page_in w.given file (mapped_block w.blocks p.block) p.page ≡ content_at m p
page_is w m file p stands parts is =
    let size : m.table.page_size ≡ w.given.page_size = ap (λ (t : RamTable). t.page_size) stands.same_table in
    let long : length (content_at m p) ≡ w.given.page_size = content_size m p stands.is_image is ∙ size in
    elim (cases_Bool (has_bit w p)) [
      | inl set ↦ cond-true _ _ _ set ∙ ap (λ (n : ℕ). slice_range file (offset_at w p) (offset_at w p + n)) (sym long) ∙ parts.pages p is set
      | inr unset ↦ cond-false _ _ _ unset ∙ ap zero_page (sym size) ∙ sym (stands.are_zeros p is unset)
    ]

pub parts_are_read : (w : MappedWriting) → IsWriting w → PartsAreRead w
parts_are_read w is m file stands parts =
    let c : MappedProgress = start w.given w.place (total_bytes (written_table w)) in
    let read : AreRead w file c w.blocks = all_read w m file c w.blocks is parts
    (record { same_given = refl; are_all = refl; same_place = refl; same_left = refl }) in
    let end : MappedProgress = after_blocks c w.blocks in (
      record {
        are_blocks = read.are_blocks;
        ends = record {
          at_end = λ _. sym (cond-false _ _ _ (le-ltb (length file) end.place (omega (arith, read.at_end, parts.has_end))));
          at_head = λ some. absurd (some read.none_left);
        };
      },
      image_agree (written_table w) (λ p. page_in w.given file (mapped_block w.blocks p.block) p.page) (content_at m)
          (λ p place. page_is w m file p stands parts (subst (λ (t : RamTable). IsPlace t p) (sym stands.same_table) place))
          ∙ ap (λ (t : RamTable). image_of t (content_at m)) (sym stands.same_table) ∙ sym (image_is m stands.is_image),
    )
