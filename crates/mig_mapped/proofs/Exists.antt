-- There is a file with the parts that a writer writes: they don't overlap.
use Rattle.std.proofs.Common.{ℕ, zero, suc, ◌≡◌, ◌+◌, ◌-◌, ◌*◌, ◌<◌, ◌≤◌, List, [], ◌∷◌, ◌++◌, length, map, take, drop, replicate}
use Rattle.std.proofs.Common.{refl, sym, ap, subst, ◌∙◌, arith, append_assoc}
use Rattle.std.specs.List.{flat_map, range_with_len}
use Rattle.std.proofs.Math.Seq.{drop-append_seam, take-append_seam}
use Rattle.std.proofs.lemmas.List.{append-nil, length-append, length-replicate, length-map, get_or-map}
use Rattle.std.proofs.lemmas.Grind.{flat_map-append}
use Rattle.mig_mem.specs.Place.{IsPlace, place_at}
use Rattle.mig_mem.specs.RamTable.{Block, RamTable, block}
use Rattle.mig_mem.specs.Image.{Image, content_at}
use Rattle.mig_mem.proofs.Images.{content_size}
use Rattle.mig_stream.specs.Fields.{be32, be64}
use Rattle.mig_stream.specs.Text.{entry}
use Rattle.mig_mapped.specs.Bitmap.{bitmap_len}
use Rattle.mig_mapped.specs.Block.{MappedBlock, ram_block, mapped_block, end_of}
use Rattle.mig_mapped.specs.Head.{header_version}
use Rattle.mig_mapped.specs.Write.{MappedWriting, written_table, head_offset, head_len, bitmap_offset}
use Rattle.mig_mapped.specs.Write.{head_bytes, StandsFor, HasAt, HasParts, HasAFile, IsWriting}
use Rattle.mig_mapped.proofs.Offsets.{aligned_after, head_after}

-- ---- bytes among others

at_mid : (pre bytes post : List ℕ) → HasAt ((pre ++ bytes) ++ post) (length pre) bytes
at_mid pre bytes post =
    let len : (length pre + length bytes) - length pre ≡ length bytes = omega arith in
    ap (λ (k : ℕ). take k (drop (length pre) ((pre ++ bytes) ++ post))) len
    ∙ ap (λ (l : List ℕ). take (length bytes) (drop (length pre) l)) (append_assoc pre bytes post)
    ∙ ap (λ (l : List ℕ). take (length bytes) l) (drop-append_seam pre (bytes ++ post))
    ∙ take-append_seam bytes post

has_mid : (file pre bytes post : List ℕ) (offset : ℕ) → file ≡ (pre ++ bytes) ++ post → length pre ≡ offset → HasAt file offset bytes
has_mid file pre bytes post offset is at =
    subst (λ (k : ℕ). HasAt file k bytes) at (subst (λ (l : List ℕ). HasAt l (length pre) bytes) (sym is) (at_mid pre bytes post))

-- ---- runs

range_more : (a n : ℕ) → range_with_len a (suc n) ≡ range_with_len a n ++ (a + n) ∷ []
range_more a zero = let e : a ≡ a + 0 = omega arith in ap (λ (k : ℕ). k ∷ []) e
range_more a (suc n) =
    let e : (a + 1) + n ≡ a + suc n = omega arith in
    ap (λ (l : List ℕ). a ∷ l) (range_more (a + 1) n ∙ ap (λ (k : ℕ). range_with_len (a + 1) n ++ k ∷ []) e)

range_split : (a m n : ℕ) → range_with_len a (m + n) ≡ range_with_len a m ++ range_with_len (a + m) n
range_split a m zero = let e : m + 0 ≡ m = omega arith in ap (λ (k : ℕ). range_with_len a k) e ∙ sym (append-nil (range_with_len a m))
range_split a m (suc n) =
    let e : m + suc n ≡ suc (m + n) = omega arith in
    let f : a + (m + n) ≡ (a + m) + n = omega arith in
    ap (λ (k : ℕ). range_with_len a k) e ∙ range_more a (m + n)
    ∙ ap (λ (l : List ℕ). l ++ (a + (m + n)) ∷ []) (range_split a m n)
    ∙ append_assoc (range_with_len a m) (range_with_len (a + m) n) ((a + (m + n)) ∷ [])
    ∙ ap (λ (l : List ℕ). range_with_len a m ++ l) (ap (λ (k : ℕ). range_with_len (a + m) n ++ k ∷ []) f ∙ sym (range_more (a + m) n))

-- one element of a run of texts, between those before it and those after it
text_split : (f : ℕ → List ℕ) (i n : ℕ) → i < n
    → flat_map f (range_with_len 0 n) ≡ (flat_map f (range_with_len 0 i) ++ f i) ++ flat_map f (range_with_len (i + 1) (n - (i + 1)))
text_split f i n low =
    let rest : ℕ = n - (i + 1) in
    let e : n ≡ i + (1 + rest) = omega (arith, low) in
    let zero_i : 0 + i ≡ i = omega arith in
    ap (λ (k : ℕ). flat_map f (range_with_len 0 k)) e
    ∙ ap (λ (l : List ℕ). flat_map f l) (range_split 0 i (1 + rest) ∙ ap (λ (k : ℕ). range_with_len 0 i ++ range_with_len k (1 + rest)) zero_i
    ∙ ap (λ (l : List ℕ). range_with_len 0 i ++ l) (range_split i 1 rest))
    ∙ flat_map-append f (range_with_len 0 i) ((i ∷ []) ++ range_with_len (i + 1) rest)
    ∙ sym (append_assoc (flat_map f (range_with_len 0 i)) (f i) (flat_map f (range_with_len (i + 1) rest)))

-- texts of one length
lengths : (f : ℕ → List ℕ) (size n : ℕ) → ((k : ℕ) → k < n → length (f k) ≡ size) → length (flat_map f (range_with_len 0 n)) ≡ n * size
lengths f size zero each = let e : 0 ≡ 0 * size = omega arith in e
lengths f size (suc n) each =
    let more : flat_map f (range_with_len 0 (suc n)) ≡ flat_map f (range_with_len 0 n) ++ (f n ++ []) =
    ap (λ (l : List ℕ). flat_map f l) (range_more 0 n ∙ ap (λ (k : ℕ). range_with_len 0 n ++ k ∷ []) (let e : 0 + n ≡ n = omega arith in e))
    ∙ flat_map-append f (range_with_len 0 n) (n ∷ []) in
    let rest = lengths f size n (λ k low. each k (omega (arith, low))) in
    let own : length (f n) ≡ size = each n (omega arith) in
    let e : suc n * size ≡ n * size + size = grind arith in
    ap (λ (l : List ℕ). length l) (more ∙ ap (λ (l : List ℕ). flat_map f (range_with_len 0 n) ++ l) (append-nil (f n)))
    ∙ length-append (flat_map f (range_with_len 0 n)) (f n) ∙ omega (arith, rest, own, e)

-- a block of the table that is written
pages_at : (blocks : List MappedBlock) (i : ℕ) → i < length blocks → (block (map ram_block blocks) i).pages ≡ (mapped_block blocks i).pages
pages_at blocks i low =
    ap (λ (b : Block). b.pages)
    (get_or-map ram_block blocks i (record { id = []; pages = 0; bitmap = []; pages_at = 0 }) (record { id = []; pages = 0 }) low)

-- ---- the file

module _ (w : MappedWriting) (m : Image) where
  abbrev at : ℕ → MappedBlock
  at i = mapped_block w.blocks i

  -- the bytes of a block's pages, one after another
  abbrev page_text : ℕ → ℕ → List ℕ
  page_text i page = content_at m (place_at i page)

  abbrev pages_text : ℕ → List ℕ
  pages_text i = flat_map (page_text i) (range_with_len 0 (at i).pages)

  abbrev gap : ℕ → List ℕ
  gap i = replicate ((at i).pages_at - (bitmap_offset w i + bitmap_len (at i).pages)) 0

  -- a block: its head, its bitmap, a gap, and its pages
  abbrev block_text : ℕ → List ℕ
  block_text i = head_bytes w i ++ ((at i).bitmap ++ (gap i ++ pages_text i))

  abbrev blocks_to : ℕ → List ℕ
  blocks_to n = replicate w.place 0 ++ flat_map block_text (range_with_len 0 n)

  abbrev whole : List ℕ
  whole = blocks_to (length w.blocks)

  -- a text, and what follows it
  mid_first : (p a more rest : List ℕ) → (p ++ (a ++ more)) ++ rest ≡ (p ++ a) ++ (more ++ rest)
  mid_first p a more rest = ap (λ (l : List ℕ). l ++ rest) (sym (append_assoc p a more)) ∙ append_assoc (p ++ a) more rest

  mid_next : (p a more rest : List ℕ) → p ++ ((a ++ more) ++ rest) ≡ (p ++ a) ++ (more ++ rest)
  mid_next p a more rest = ap (λ (l : List ℕ). p ++ l) (append_assoc a more rest) ∙ sym (append_assoc p a (more ++ rest))

  head_length : (i : ℕ) → length (head_bytes w i) ≡ head_len (at i).id
  head_length i =
      let size : ℕ = w.given.page_size in
      let e : List ℕ = entry size (ram_block (at i)) in
      let four : length (be32 header_version) ≡ 4 = refl in
      let a : length (be64 size) ≡ 8 = refl in
      let b : length (be64 (bitmap_offset w i)) ≡ 8 = refl in
      let c : length (be64 (at i).pages_at) ≡ 8 = refl in
      let d : length (be64 ((at i).pages * size)) ≡ 8 = refl in
      omega (
        arith,
        length-append (e ++ be32 header_version ++ be64 size ++ be64 (bitmap_offset w i)) (be64 (at i).pages_at),
        length-append (e ++ be32 header_version ++ be64 size) (be64 (bitmap_offset w i)),
        length-append (e ++ be32 header_version) (be64 size),
        length-append e (be32 header_version),
        length-append (length (at i).id ∷ (at i).id) (be64 ((at i).pages * size)),
        four,
        a,
        b,
        c,
        d,
      )

  module _ (is : IsWriting w) (stands : StandsFor w m) where
    abbrev size : ℕ
    size = w.given.page_size

    page_there : (i k : ℕ) → i < length w.blocks → k < (at i).pages → IsPlace m.table (place_at i k)
    page_there i k low page =
        subst (λ (t : RamTable). IsPlace t (place_at i k)) (sym stands.same_table)
        (record {
          has_block = omega (arith, low, length-map w.blocks ram_block);
          has_page = subst (λ (n : ℕ). k < n) (sym (pages_at w.blocks i low)) page;
        })

    page_len : (i k : ℕ) → i < length w.blocks → k < (at i).pages → length (page_text i k) ≡ size
    page_len i k low page =
        content_size m (place_at i k) stands.is_image (page_there i k low page) ∙ ap (λ (t : RamTable). t.page_size) stands.same_table

    gap_low : (i : ℕ) → i < length w.blocks → bitmap_offset w i + bitmap_len (at i).pages ≤ (at i).pages_at
    gap_low i low =
        subst (λ (n : ℕ). bitmap_offset w i + bitmap_len (at i).pages ≤ n) (sym (is.are_laid i low).has_pages)
        (aligned_after (bitmap_offset w i + bitmap_len (at i).pages))

    -- where the gap and the pages of a block begin
    bitmap_end : (i : ℕ) → i < length w.blocks → length (head_bytes w i) + length (at i).bitmap + length (gap i) + head_offset w i ≡ (at i).pages_at
    bitmap_end i low =
        omega (
          arith,
          head_length i,
          (is.are_laid i low).has_bitmap,
          length-replicate {A = ℕ} ((at i).pages_at - (bitmap_offset w i + bitmap_len (at i).pages)) 0,
          gap_low i low,
        )

    block_len : (i : ℕ) → i < length w.blocks → head_offset w i + length (block_text i) ≡ end_of size (at i)
    block_len i low =
        omega (
          arith,
          bitmap_end i low,
          length-append (head_bytes w i) ((at i).bitmap ++ (gap i ++ pages_text i)),
          length-append (at i).bitmap (gap i ++ pages_text i),
          length-append (gap i) (pages_text i),
          lengths (page_text i) size (at i).pages (λ k page. page_len i k low page),
        )

    to_more : (n : ℕ) → blocks_to (suc n) ≡ blocks_to n ++ block_text n
    to_more n =
        let e : 0 + n ≡ n = omega arith in
        ap (λ (l : List ℕ). replicate w.place 0 ++ flat_map block_text l) (range_more 0 n ∙ ap (λ (k : ℕ). range_with_len 0 n ++ k ∷ []) e)
        ∙ ap (λ (l : List ℕ). replicate w.place 0 ++ l)
        (flat_map-append block_text (range_with_len 0 n) (n ∷ [])
        ∙ ap (λ (l : List ℕ). flat_map block_text (range_with_len 0 n) ++ l) (append-nil (block_text n)))
        ∙ sym (append_assoc (replicate w.place 0) (flat_map block_text (range_with_len 0 n)) (block_text n))

    prefix_len : (n : ℕ) → n ≤ length w.blocks → length (blocks_to n) ≡ head_offset w n
    prefix_len zero few = ap (λ (l : List ℕ). length l) (append-nil (replicate w.place 0)) ∙ length-replicate {A = ℕ} w.place 0
    prefix_len (suc n) few =
        let before = prefix_len n (omega (arith, few)) in
        let e : n + 1 ≡ suc n = omega arith in
        ap (λ (l : List ℕ). length l) (to_more n) ∙ length-append (blocks_to n) (block_text n)
        ∙ ap (λ (k : ℕ). k + length (block_text n)) before ∙ block_len n (omega (arith, few)) ∙ sym (head_after w n)
        ∙ ap (λ (k : ℕ). head_offset w k) e

    abbrev rest_from : ℕ → List ℕ
    rest_from i = flat_map block_text (range_with_len (i + 1) (length w.blocks - (i + 1)))

    split_at : (i : ℕ) → i < length w.blocks → whole ≡ (blocks_to i ++ block_text i) ++ rest_from i
    split_at i low =
        let before : List ℕ = flat_map block_text (range_with_len 0 i) in
        ap (λ (l : List ℕ). replicate w.place 0 ++ l) (text_split block_text i (length w.blocks) low)
        ∙ sym (append_assoc (replicate w.place 0) (before ++ block_text i) (rest_from i))
        ∙ ap (λ (l : List ℕ). l ++ rest_from i) (sym (append_assoc (replicate w.place 0) before (block_text i)))

    -- after the head, after the bitmap, and after the gap
    after_head : (i : ℕ) → i < length w.blocks
        → whole ≡ (blocks_to i ++ head_bytes w i) ++ (((at i).bitmap ++ (gap i ++ pages_text i)) ++ rest_from i)
    after_head i low = split_at i low ∙ mid_first (blocks_to i) (head_bytes w i) ((at i).bitmap ++ (gap i ++ pages_text i)) (rest_from i)

    after_bitmap : (i : ℕ) → i < length w.blocks
        → whole ≡ ((blocks_to i ++ head_bytes w i) ++ (at i).bitmap) ++ ((gap i ++ pages_text i) ++ rest_from i)
    after_bitmap i low = after_head i low ∙ mid_next (blocks_to i ++ head_bytes w i) (at i).bitmap (gap i ++ pages_text i) (rest_from i)

    after_gap : (i : ℕ) → i < length w.blocks
        → whole ≡ (((blocks_to i ++ head_bytes w i) ++ (at i).bitmap) ++ gap i) ++ (pages_text i ++ rest_from i)
    after_gap i low = after_bitmap i low ∙ mid_next ((blocks_to i ++ head_bytes w i) ++ (at i).bitmap) (gap i) (pages_text i) (rest_from i)

    head_end : (i : ℕ) → i < length w.blocks → length (blocks_to i ++ head_bytes w i) ≡ bitmap_offset w i
    head_end i low = omega (arith, length-append (blocks_to i) (head_bytes w i), prefix_len i (omega (arith, low)), head_length i)

    has_page : (i k : ℕ) → i < length w.blocks → k < (at i).pages → HasAt whole ((at i).pages_at + k * size) (page_text i k)
    has_page i k low page =
        let b : List ℕ = blocks_to i ++ head_bytes w i in
        let q : List ℕ = (b ++ (at i).bitmap) ++ gap i in
        let before : List ℕ = flat_map (page_text i) (range_with_len 0 k) in
        let after : List ℕ = flat_map (page_text i) (range_with_len (k + 1) ((at i).pages - (k + 1))) in
        let split : whole ≡ ((q ++ before) ++ page_text i k) ++ (after ++ rest_from i) =
        after_gap i low
        ∙ ap (λ (l : List ℕ). q ++ (l ++ rest_from i)) (text_split (page_text i) k (at i).pages page)
        ∙ mid_next q (before ++ page_text i k) after (rest_from i)
        ∙ ap (λ (l : List ℕ). l ++ (after ++ rest_from i)) (sym (append_assoc q before (page_text i k))) in
        has_mid whole (q ++ before) (page_text i k) (after ++ rest_from i) ((at i).pages_at + k * size) split
        (omega (
          arith,
          length-append q before,
          length-append (b ++ (at i).bitmap) (gap i),
          length-append b (at i).bitmap,
          length-append (blocks_to i) (head_bytes w i),
          prefix_len i (omega (arith, low)),
          bitmap_end i low,
          lengths (page_text i) size k (λ j less. page_len i j low (omega (arith, less, page))),
        ))

    pub all_parts : HasParts w m whole
    all_parts = record {
      heads = λ i low. has_mid whole (blocks_to i) (head_bytes w i) (((at i).bitmap ++ (gap i ++ pages_text i)) ++ rest_from i) (head_offset w i)
          (after_head i low) (prefix_len i (omega (arith, low)));
      bitmaps = λ i low. has_mid whole (blocks_to i ++ head_bytes w i) (at i).bitmap ((gap i ++ pages_text i) ++ rest_from i) (bitmap_offset w i)
          (after_bitmap i low) (head_end i low);
      pages = λ p there set.
          let own : IsPlace (written_table w) p = subst (λ (t : RamTable). IsPlace t p) stands.same_table there in
          let low : p.block < length w.blocks = omega (arith, own.has_block, length-map w.blocks ram_block) in
          has_page p.block p.page low (subst (λ (n : ℕ). p.page < n) (pages_at w.blocks p.block low) own.has_page);
      has_end = omega (arith, prefix_len (length w.blocks) (omega arith));
    }

pub has_a_file : (w : MappedWriting) → IsWriting w → HasAFile w
has_a_file w is = λ m stands. (whole w m, all_parts w m is stands)
