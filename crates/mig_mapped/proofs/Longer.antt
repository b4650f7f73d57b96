-- A head is read from its own bytes alone: from the front of some bytes as from all of them.
use Rattle.std.proofs.Common.{ℕ, ◌≡◌, ◌≢◌, ◌+◌, ◌/◌, ◌%◌, ◌<◌, ◌≤◌, Bool, true, false, List, [], ◌∷◌, ◌++◌, length, get_or, take, drop, cond}
use Rattle.std.proofs.Common.{Option, Some, None, refl, sym, ap, ◌∙◌, arith}
use Rattle.std.specs.Prelude.{slice_range}
use Rattle.std.specs.Int.{w32, w64, from_be_bytes}
use Rattle.std.specs.Option.{option_or}
use Rattle.std.proofs.lemmas.Bool.{le-ltb, lt-leb, ne_eqb, eq-eqb, not_from_true, or_from}
use Rattle.std.proofs.lemmas.List.{get_or-take, take-take, take-append-le, take_all, length-append, length-drop, drop-append-le}
use Rattle.std.proofs.lemmas.Slice.{between_is}
use Rattle.mig_mem.specs.First.{first_of}
use Rattle.mig_mem.specs.RamTable.{is_id}
use Rattle.mig_stream.specs.Fields.{be32_at, be64_at}
use Rattle.mig_stream.specs.Items.{id_in, length_in}
use Rattle.mig_mapped.specs.declared.fault.MappedFault.{MappedFault}
use Rattle.mig_mapped.specs.Bitmap.{bitmap_len, has_tail}
use Rattle.mig_mapped.specs.Block.{MappedBlock}
use Rattle.mig_mapped.specs.Head.{MappedProgress, entry_len, bitmap_end, pages_in, bitmap_in, version_in, page_size_in, bitmap_offset_in, pages_offset_in}
use Rattle.mig_mapped.specs.Head.{has_id, entry_faults, header_faults, bitmap_faults, head_fault, block_in, after_block}
use Rattle.mig_mapped.specs.Reading.{rest_of, AreBlocks, after_blocks}
use Rattle.mig_mapped.proofs.Heads.{IsHead, head_good}

-- ---- parts of the front

-- a part of the front is that part of all
pub slice_front : (xs : List ℕ) (n i j : ℕ) → j ≤ n → slice_range (take n xs) i j ≡ slice_range xs i j
slice_front xs n i j le = between_is (take n xs) i j ∙ ap (drop i) (take-take j n xs le) ∙ sym (between_is xs i j)

be32_front : (xs : List ℕ) (n at : ℕ) → at + 4 ≤ n → be32_at at (take n xs) ≡ be32_at at xs
unfolding be32_at
be32_front xs n at le = ap (from_be_bytes w32) (slice_front xs n at (at + 4) le)

be64_front : (xs : List ℕ) (n at : ℕ) → at + 8 ≤ n → be64_at at (take n xs) ≡ be64_at at xs
unfolding be64_at
be64_front xs n at le = ap (from_be_bytes w64) (slice_front xs n at (at + 8) le)

-- ---- the parts of a head

-- two lists of bytes have the same parts of a head
pub record SameHead (page_size : ℕ) (a b : List ℕ) : Type 0 where
  pub entry : entry_len a ≡ entry_len b
  pub id : id_in a ≡ id_in b
  pub len : length_in a ≡ length_in b
  pub version : version_in a ≡ version_in b
  pub size : page_size_in a ≡ page_size_in b
  pub bitmap_offset : bitmap_offset_in a ≡ bitmap_offset_in b
  pub pages_offset : pages_offset_in a ≡ pages_offset_in b
  pub end : bitmap_end page_size a ≡ bitmap_end page_size b
  pub bitmap : bitmap_in page_size a ≡ bitmap_in page_size b

pub flipped : (page_size : ℕ) (a b : List ℕ) → SameHead page_size a b → SameHead page_size b a
flipped page_size a b same = record {
  entry = sym same.entry;
  id = sym same.id;
  len = sym same.len;
  version = sym same.version;
  size = sym same.size;
  bitmap_offset = sym same.bitmap_offset;
  pages_offset = sym same.pages_offset;
  end = sym same.end;
  bitmap = sym same.bitmap;
}

first_byte : (xs : List ℕ) (n : ℕ) → 0 < n → get_or (take n xs) 0 0 ≡ get_or xs 0 0
first_byte xs n some = get_or-take n xs 0 0 some

-- the front with the whole head has the same parts
pub same_front : (page_size : ℕ) (xs : List ℕ) (n : ℕ) → bitmap_end page_size xs ≤ n → SameHead page_size (take n xs) xs
same_front page_size xs n le =
    let first : get_or (take n xs) 0 0 ≡ get_or xs 0 0 = first_byte xs n (omega arith) in
    let entry : entry_len (take n xs) ≡ entry_len xs = ap (λ (k : ℕ). 9 + k) first in
    let len : length_in (take n xs) ≡ length_in xs = ap (λ (k : ℕ). be64_at (1 + k) (take n xs)) first ∙ be64_front xs n (1 + get_or xs 0 0) (omega arith) in
    let end : bitmap_end page_size (take n xs) ≡ bitmap_end page_size xs =
    ap (λ (k : ℕ). k + 28 + bitmap_len (length_in (take n xs) / page_size)) entry ∙ ap (λ (k : ℕ). entry_len xs + 28 + bitmap_len (k / page_size)) len in
    record {
      entry = entry;
      id = ap (λ (k : ℕ). slice_range (take n xs) 1 (1 + k)) first ∙ slice_front xs n 1 (1 + get_or xs 0 0) (omega arith);
      len = len;
      version = ap (λ (k : ℕ). be32_at k (take n xs)) entry ∙ be32_front xs n (entry_len xs) (omega arith);
      size = ap (λ (k : ℕ). be64_at (k + 4) (take n xs)) entry ∙ be64_front xs n (entry_len xs + 4) (omega arith);
      bitmap_offset = ap (λ (k : ℕ). be64_at (k + 12) (take n xs)) entry ∙ be64_front xs n (entry_len xs + 12) (omega arith);
      pages_offset = ap (λ (k : ℕ). be64_at (k + 20) (take n xs)) entry ∙ be64_front xs n (entry_len xs + 20) (omega arith);
      end = end;
      bitmap = ap (λ (k : ℕ). slice_range (take n xs) (k + 28) (bitmap_end page_size (take n xs))) entry
          ∙ ap (λ (k : ℕ). slice_range (take n xs) (entry_len xs + 28) k) end ∙ slice_front xs n (entry_len xs + 28) (bitmap_end page_size xs) le;
    }

-- the end of a head, by the front that has it
end_front : (page_size : ℕ) (xs : List ℕ) (n : ℕ) → bitmap_end page_size (take n xs) ≤ n → bitmap_end page_size xs ≡ bitmap_end page_size (take n xs)
end_front page_size xs n le =
    let first : get_or (take n xs) 0 0 ≡ get_or xs 0 0 = first_byte xs n (omega arith) in
    let len : length_in (take n xs) ≡ length_in xs = ap (λ (k : ℕ). be64_at (1 + k) (take n xs)) first
    ∙ be64_front xs n (1 + get_or xs 0 0) (omega (arith, first)) in
    sym (ap (λ (k : ℕ). 9 + k + 28 + bitmap_len (length_in (take n xs) / page_size)) first ∙ ap (λ (k : ℕ). entry_len xs + 28 + bitmap_len (k / page_size)) len)

-- and so have more bytes
pub same_longer : (page_size : ℕ) (xs more : List ℕ) → bitmap_end page_size xs ≤ length xs → SameHead page_size xs (xs ++ more)
same_longer page_size xs more le =
    let front : take (length xs) (xs ++ more) ≡ xs = take-append-le (length xs) xs more (omega arith) ∙ take_all (length xs) xs (omega arith) in
    let end : bitmap_end page_size (xs ++ more) ≤ length xs =
    omega (arith, end_front page_size (xs ++ more) (length xs) (omega (arith, ap (bitmap_end page_size) front)), ap (bitmap_end page_size) front) in
    let same = same_front page_size (xs ++ more) (length xs) end in
    record {
      entry = ap entry_len (sym front) ∙ same.entry;
      id = ap id_in (sym front) ∙ same.id;
      len = ap length_in (sym front) ∙ same.len;
      version = ap version_in (sym front) ∙ same.version;
      size = ap page_size_in (sym front) ∙ same.size;
      bitmap_offset = ap bitmap_offset_in (sym front) ∙ same.bitmap_offset;
      pages_offset = ap pages_offset_in (sym front) ∙ same.pages_offset;
      end = ap (bitmap_end page_size) (sym front) ∙ same.end;
      bitmap = ap (bitmap_in page_size) (sym front) ∙ same.bitmap;
    }

-- ---- a head without a fault

one_less : {X : Type 0} (test : Bool) (x : X) (others : Option X) → test ≡ false → others ≡ None → cond test (Some x) others ≡ None
one_less false x others fails rest = rest
one_less true x others fails rest = absurd cc

pub head_none : (c : MappedProgress) (bytes : List ℕ) → IsHead c bytes → head_fault c bytes ≡ None
head_none c bytes is =
    let bad = or_from _ _ (le-ltb _ _ is.header.is_after)
    (or_from _ _ (not_from_true _ (eq-eqb _ _ is.header.is_aligned)) (lt-leb _ _ is.header.is_in_file)) in
    let entry : first_of (entry_faults c bytes) ≡ None =
    one_less _ _ _ (le-ltb _ _ is.entry.has_entry) (one_less _ _ _ (lt-leb _ _ is.entry.is_few)
    (one_less _ _ _ (not_from_true _ is.entry.has_name) (one_less _ _ _ is.entry.is_own
    (one_less _ _ _ (or_from _ _ (ne_eqb _ _ is.entry.is_some) (not_from_true _ (eq-eqb _ _ is.entry.is_whole)))
    (one_less _ _ _ (le-ltb _ _ is.entry.fits) refl))))) in
    let header : first_of (header_faults c bytes) ≡ None =
    one_less _ _ _ (le-ltb _ _ is.header.has_header) (one_less _ _ _ (not_from_true _ (eq-eqb _ _ is.header.has_version))
    (one_less _ _ _ (not_from_true _ (eq-eqb _ _ is.header.has_size)) (one_less _ _ _ (not_from_true _ (eq-eqb _ _ is.header.follows))
    (one_less _ _ _ bad refl)))) in
    let bitmap : first_of (bitmap_faults c bytes) ≡ None =
    one_less _ _ _ (le-ltb _ _ is.bitmap.has_bitmap) (one_less _ _ _ is.bitmap.has_none_after refl) in
    ap (λ (o : Option MappedFault). option_or o (option_or (first_of (header_faults c bytes)) (first_of (bitmap_faults c bytes)))) entry
    ∙ ap (λ (o : Option MappedFault). option_or o (first_of (bitmap_faults c bytes))) header ∙ bitmap

-- bytes with the parts of a head without a fault are one, if they have all of it
pub head_same : (c : MappedProgress) (a b : List ℕ) → SameHead c.given.page_size a b → bitmap_end c.given.page_size b ≤ length b → IsHead c a → IsHead c b
head_same c a b same long is = record {
  entry = record {
    has_entry = omega (arith, long);
    is_few = is.entry.is_few;
    has_name = ap is_id (sym same.id) ∙ is.entry.has_name;
    is_own = ap (has_id c.blocks) (sym same.id) ∙ is.entry.is_own;
    is_some = λ e. is.entry.is_some (same.len ∙ e);
    is_whole = ap (λ (k : ℕ). k % c.given.page_size) (sym same.len) ∙ is.entry.is_whole;
    fits = omega (arith, same.len, is.entry.fits);
  };
  header = record {
    has_header = omega (arith, long);
    has_version = sym same.version ∙ is.header.has_version;
    has_size = sym same.size ∙ is.header.has_size;
    follows = sym same.bitmap_offset ∙ is.header.follows ∙ ap (λ (k : ℕ). c.place + (k + 28)) same.entry;
    is_after = omega (arith, same.end, same.pages_offset, is.header.is_after);
    is_aligned = ap (λ (k : ℕ). k % c.given.page_size) (sym same.pages_offset) ∙ is.header.is_aligned;
    is_in_file = omega (arith, same.len, same.pages_offset, is.header.is_in_file);
  };
  bitmap = record {
    has_bitmap = long;
    has_none_after = ap (λ (x : List ℕ). has_tail c.given.order x (pages_in c.given.page_size b)) (sym same.bitmap)
        ∙ ap (λ (k : ℕ). has_tail c.given.order (bitmap_in c.given.page_size a) (k / c.given.page_size)) (sym same.len) ∙ is.bitmap.has_none_after;
  };
}

-- and are the head of the same block
pub block_same : (page_size : ℕ) (a b : List ℕ) → SameHead page_size a b → block_in page_size a ≡ block_in page_size b
block_same page_size a b same =
    ap (λ (x : List ℕ). record { id = x; pages = pages_in page_size a; bitmap = bitmap_in page_size a; pages_at = pages_offset_in a }) same.id
    ∙ ap (λ (x : ℕ). record { id = id_in b; pages = x / page_size; bitmap = bitmap_in page_size a; pages_at = pages_offset_in a }) same.len
    ∙ ap (λ (x : List ℕ). record { id = id_in b; pages = pages_in page_size b; bitmap = x; pages_at = pages_offset_in a }) same.bitmap
    ∙ ap (λ (x : ℕ). record { id = id_in b; pages = pages_in page_size b; bitmap = bitmap_in page_size b; pages_at = x }) same.pages_offset

-- ---- blocks in a longer file

-- The blocks of a file are those of a longer one.
pub blocks_longer : (file more : List ℕ) (c : MappedProgress) (bs : List MappedBlock) → AreBlocks file c bs → AreBlocks (file ++ more) c bs
blocks_longer file more c [] are = tt
blocks_longer file more c (b ∷ bs) are =
    let rest : List ℕ = rest_of file c in
    let is : IsHead c rest = head_good c rest are.1 in
    let within : c.place ≤ length file = omega (arith, length-drop c.place file, is.bitmap.has_bitmap) in
    let longer : rest_of (file ++ more) c ≡ rest ++ more = drop-append-le c.place file more within in
    let same : SameHead c.given.page_size rest (rest ++ more) = same_longer c.given.page_size rest more is.bitmap.has_bitmap in
    let long : bitmap_end c.given.page_size (rest ++ more) ≤ length (rest ++ more) = omega (arith, same.end, is.bitmap.has_bitmap, length-append rest more) in (
      are.0,
      ap (head_fault c) longer ∙ head_none c (rest ++ more) (head_same c rest (rest ++ more) same long is),
      are.2 ∙ block_same c.given.page_size rest (rest ++ more) same ∙ ap (block_in c.given.page_size) (sym longer),
      blocks_longer file more (after_block c b) bs are.3,
    )

-- one block more, whose head these bytes are
pub blocks_push : (file : List ℕ) (c : MappedProgress) (bs : List MappedBlock) (b : MappedBlock) → AreBlocks file c bs → (after_blocks c bs).left ≢ 0
    → head_fault (after_blocks c bs) (rest_of file (after_blocks c bs)) ≡ None
    → b ≡ block_in (after_blocks c bs).given.page_size (rest_of file (after_blocks c bs)) → AreBlocks file c (bs ++ b ∷ [])
blocks_push file c [] b are some good is = (some, good, is, tt)
blocks_push file c (a ∷ bs) b are some good is = (are.0, are.1, are.2, blocks_push file (after_block c a) bs b are.3 some good is)

pub after_push : (c : MappedProgress) (bs : List MappedBlock) (b : MappedBlock) → after_blocks c (bs ++ b ∷ []) ≡ after_block (after_blocks c bs) b
after_push c [] b = refl
after_push c (a ∷ bs) b = after_push (after_block c a) bs b
