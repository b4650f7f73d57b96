-- What is known of a head without a fault.
use Rattle.std.proofs.Common.{ℕ, ◌≡◌, ◌≢◌, ◌+◌, ◌*◌, ◌%◌, ◌<◌, ◌≤◌, Bool, true, false, cond, List, length, Option, Some, None, refl, arith}
use Rattle.std.proofs.lemmas.Bool.{ltb-false, leb-false, eqb-true, eqb-false, not-false, or_parts}
use Rattle.std.proofs.lemmas.Nat.{div-add-mod'}
use Rattle.mig_mem.specs.First.{first_of}
use Rattle.mig_mem.specs.RamTable.{is_id}
use Rattle.mig_mem.proofs.Lists.{or_none}
use Rattle.mig_stream.specs.Items.{id_in, length_in}
use Rattle.mig_mapped.specs.Bitmap.{has_tail}
use Rattle.mig_mapped.specs.Head.{MappedProgress, entry_len, bitmap_start, bitmap_end, pages_in, bitmap_in, version_in, page_size_in}
use Rattle.mig_mapped.specs.Head.{bitmap_offset_in, pages_offset_in, header_version, most_file_bytes, has_id}
use Rattle.mig_mapped.specs.Head.{entry_faults, header_faults, bitmap_faults, head_fault}

-- if no test of some holds, the first one doesn't, and neither do the others
pub none_of : {X : Type 0} (test : Bool) (x : X) (others : Option X) → cond test (Some x) others ≡ None → (test ≡ false) × (others ≡ None)
none_of true x others h = absurd cc
none_of false x others h = (refl, h)

-- what is known of an entry without a fault
pub record IsEntry (c : MappedProgress) (bytes : List ℕ) : Type 0 where
  pub has_entry : entry_len bytes ≤ length bytes
  pub is_few : length c.blocks < 256
  pub has_name : is_id (id_in bytes) ≡ true
  pub is_own : has_id c.blocks (id_in bytes) ≡ false
  pub is_some : length_in bytes ≢ 0
  pub is_whole : length_in bytes % c.given.page_size ≡ 0
  pub fits : length_in bytes ≤ c.left

-- and of its header
pub record IsHeader (c : MappedProgress) (bytes : List ℕ) : Type 0 where
  pub has_header : bitmap_start bytes ≤ length bytes
  pub has_version : version_in bytes ≡ header_version
  pub has_size : page_size_in bytes ≡ c.given.page_size
  pub follows : bitmap_offset_in bytes ≡ c.place + bitmap_start bytes
  pub is_after : c.place + bitmap_end c.given.page_size bytes ≤ pages_offset_in bytes
  pub is_aligned : pages_offset_in bytes % c.given.page_size ≡ 0
  pub is_in_file : pages_offset_in bytes + length_in bytes < most_file_bytes

-- and of its bitmap
pub record IsBitmap (c : MappedProgress) (bytes : List ℕ) : Type 0 where
  pub has_bitmap : bitmap_end c.given.page_size bytes ≤ length bytes
  pub has_none_after : has_tail c.given.order (bitmap_in c.given.page_size bytes) (pages_in c.given.page_size bytes) ≡ false

pub record IsHead (c : MappedProgress) (bytes : List ℕ) : Type 0 where
  pub entry : IsEntry c bytes
  pub header : IsHeader c bytes
  pub bitmap : IsBitmap c bytes

pub entry_good : (c : MappedProgress) (bytes : List ℕ) → first_of (entry_faults c bytes) ≡ None → IsEntry c bytes
entry_good c bytes h =
    let one = none_of _ _ _ h in
    let two = none_of _ _ _ one.1 in
    let three = none_of _ _ _ two.1 in
    let four = none_of _ _ _ three.1 in
    let five = none_of _ _ _ four.1 in
    let six = none_of _ _ _ five.1 in
    let parts = or_parts _ _ five.0 in
    record {
      has_entry = ltb-false _ _ one.0;
      is_few = leb-false _ _ two.0;
      has_name = not-false _ three.0;
      is_own = four.0;
      is_some = eqb-false _ _ parts.0;
      is_whole = eqb-true _ _ (not-false _ parts.1);
      fits = ltb-false _ _ six.0;
    }

pub header_good : (c : MappedProgress) (bytes : List ℕ) → first_of (header_faults c bytes) ≡ None → IsHeader c bytes
header_good c bytes h =
    let one = none_of _ _ _ h in
    let two = none_of _ _ _ one.1 in
    let three = none_of _ _ _ two.1 in
    let four = none_of _ _ _ three.1 in
    let five = none_of _ _ _ four.1 in
    let parts = or_parts _ _ five.0 in
    let others = or_parts _ _ parts.1 in
    record {
      has_header = ltb-false _ _ one.0;
      has_version = eqb-true _ _ (not-false _ two.0);
      has_size = eqb-true _ _ (not-false _ three.0);
      follows = eqb-true _ _ (not-false _ four.0);
      is_after = ltb-false _ _ parts.0;
      is_aligned = eqb-true _ _ (not-false _ others.0);
      is_in_file = leb-false _ _ others.1;
    }

pub bitmap_good : (c : MappedProgress) (bytes : List ℕ) → first_of (bitmap_faults c bytes) ≡ None → IsBitmap c bytes
bitmap_good c bytes h =
    let one = none_of _ _ _ h in
    let two = none_of _ _ _ one.1 in
    record { has_bitmap = ltb-false _ _ one.0; has_none_after = two.0 }

-- A head without a fault has all of this.
pub head_good : (c : MappedProgress) (bytes : List ℕ) → head_fault c bytes ≡ None → IsHead c bytes
head_good c bytes h =
    let first = or_none _ _ h in
    let others = or_none _ _ first.1 in
    record { entry = entry_good c bytes first.0; header = header_good c bytes others.0; bitmap = bitmap_good c bytes others.1 }

-- its pages have all of the block's bytes
pub all_bytes : (c : MappedProgress) (bytes : List ℕ) → IsEntry c bytes → pages_in c.given.page_size bytes * c.given.page_size ≡ length_in bytes
all_bytes c bytes is = omega (arith, div-add-mod' (length_in bytes) c.given.page_size, is.is_whole)
