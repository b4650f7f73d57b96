-- The steps of a plain stream: what each of them makes is what was to come next.
use Rattle.std.proofs.Common.{ℕ, suc, ◌≡◌, ◌+◌, ◌-◌, ◌*◌, ◌<◌, ◌≤◌, List, [], ◌++◌, length, take, drop, leb}
use Rattle.std.proofs.Common.{min, refl, sym, ap, ◌∙◌, arith, inl, inr}
use Rattle.std.proofs.Common.{Bool, true, false, Option, Some}
use Rattle.std.proofs.lemmas.Bool.{le-leb, lt-leb, cases_lt}
use Rattle.std.proofs.lemmas.List.{drop-drop, length-drop, length-take}
use Rattle.std.proofs.Math.Nat.{mul-le-mul_right}
use Rattle.std.specs.Prelude.{slice_range}
use Rattle.std.specs.List.{range_with_len}
use Rattle.mig_mem.specs.Place.{place_at}
use Rattle.mig_mem.specs.RamTable.{Block, block}
use Rattle.mig_mapped.specs.Bitmap.{is_set}
use Rattle.mig_mapped.specs.Block.{mapped_block, page_offset}
use Rattle.mig_mapped.specs.Head.{MappedProgress}
use Rattle.mig_mapped.specs.Load.{has_come}
use Rattle.mig_mapped.proofs.Blocks.{block_mapped}
use Rattle.mig_mapped.proofs.Longer.{slice_front}
use Rattle.zimgasol_mapped.specs.Records.{records_bytes, no_content, part_of}
use Rattle.zimgasol_mapped.specs.Plain.{index_table, pages_bytes}
use Rattle.zimgasol_mapped.specs.Course.{places_from, pages_left}
use Rattle.zimgasol_mapped.proofs.Pages.{AreThere, pages_some, places_split}

-- the bit of a page
abbrev pub bit : MappedProgress → ℕ → ℕ → Bool
bit c b q = is_set c.given.order (mapped_block c.blocks b).bitmap q

-- the index's number of pages is the table's
pub same_pages : (c : MappedProgress) (b : ℕ) → b < length c.blocks → (block (index_table c).blocks b).pages ≡ (mapped_block c.blocks b).pages
same_pages c b lt = ap (λ (x : Block). x.pages) (block_mapped c.blocks b lt)

-- pages of one block come first, and then those after them
split_left : (c : MappedProgress) (file : List ℕ) (b first end : ℕ) (content : ℕ → Option (List ℕ)) → b < length c.blocks → first ≤ end
    → end ≤ (mapped_block c.blocks b).pages → AreThere c file b content first (end - first)
    → pages_left c file (place_at b first) ≡ records_bytes (index_table c) b content (range_with_len first (end - first)) ++ pages_left c file (place_at b end)
split_left c file b first end content lt low high are =
    let rest = drop c.place file in
    ap (pages_bytes c file rest) (places_split (index_table c) b first end low (omega (arith, high, same_pages c b lt)))
    ∙ pages_some c file rest b content first (end - first) (places_from (index_table c) (place_at b end)) are

-- ---- pages of zeros

pub zeros_left : (c : MappedProgress) (file : List ℕ) (b first end : ℕ) → b < length c.blocks → first ≤ end → end ≤ (mapped_block c.blocks b).pages
    → ((q : ℕ) → first ≤ q → q < end → bit c b q ≡ false)
    → pages_left c file (place_at b first)
    ≡ records_bytes (index_table c) b no_content (range_with_len first (end - first)) ++ pages_left c file (place_at b end)
zeros_left c file b first end lt low high none =
    split_left c file b first end no_content lt low high (λ q from to.
    let f : bit c b q ≡ false = none q from (omega (arith, low, to)) in (rw f refl, rw f refl))

-- ---- pages that the file has

-- The contents that were read: those of the pages from `first` on, up to `after`.
pub record AreRead (c : MappedProgress) (file : List ℕ) (b first after offset len : ℕ) (contents : List ℕ) : Type 0 where
  pub low : first ≤ after
  pub has_offset : offset ≡ page_offset c.given.page_size (mapped_block c.blocks b) first
  pub are_bytes : contents ≡ take len (drop offset file)
  pub fits : (after - first) * c.given.page_size ≤ length contents
  pub are_set : (q : ℕ) → first ≤ q → q < after → bit c b q ≡ true

-- they are in the file
in_file : (file contents : List ℕ) (offset len : ℕ) → contents ≡ take len (drop offset file)
    → (length contents ≤ len) × (length contents ≤ length file - offset)
in_file file contents offset len is =
    let n = ap (λ (l : List ℕ). length l) is ∙ length-take len (drop offset file) in
    let m = length-drop offset file in
    (omega (arith, n), omega (arith, n, m))

-- a page more has this many bytes more
product_more : (n size : ℕ) → (n + 1) * size ≡ n * size + size
product_more n size = grind arith

-- where pages lie that come after some
offset_on : (at first n size : ℕ) → at + (first + n) * size ≡ at + first * size + n * size
offset_on at first n size = grind arith

pub offset_from : (c : MappedProgress) (b first q offset : ℕ) → first ≤ q → offset ≡ page_offset c.given.page_size (mapped_block c.blocks b) first
    → page_offset c.given.page_size (mapped_block c.blocks b) q ≡ offset + (q - first) * c.given.page_size
offset_from c b first q offset low is =
    let at : ℕ = (mapped_block c.blocks b).pages_at in
    let size : ℕ = c.given.page_size in
    let n : q ≡ first + (q - first) = omega (arith, low) in
    ap (λ (m : ℕ). at + m * size) n ∙ offset_on at first (q - first) size ∙ ap (λ (m : ℕ). m + (q - first) * size) (sym is)

read_there : (c : MappedProgress) (file : List ℕ) (b first after offset len : ℕ) (contents : List ℕ) → 0 < c.given.page_size
    → AreRead c file b first after offset len contents → AreThere c file b (part_of c.given.page_size contents first) first (after - first)
read_there c file b first after offset len contents some h = λ q from to.
    let size : ℕ = c.given.page_size in
    let x : ℕ = (q - first) * size in
    let t : bit c b q ≡ true = h.are_set q from (omega (arith, h.low, to)) in
    let inside = in_file file contents offset len h.are_bytes in
    let more : (q - first + 1) * size ≤ (after - first) * size = mul-le-mul_right size (omega (arith, from, to)) in
    let end : x + size ≤ length contents = omega (arith, more, product_more (q - first) size, h.fits) in
    let at : page_offset size (mapped_block c.blocks b) q ≡ offset + x = offset_from c b first q offset from h.has_offset in
    let fits : offset + x + size ≤ length file = omega (arith, inside.1, end, some) in
    let there : leb (page_offset size (mapped_block c.blocks b) q + size) (length file) ≡ true =
    le-leb (page_offset size (mapped_block c.blocks b) q + size) (length file) (omega (arith, at, fits)) in
    let part : slice_range contents x (x + size)
    ≡ slice_range file (page_offset size (mapped_block c.blocks b) q) (page_offset size (mapped_block c.blocks b) q + size) =
    ap (λ (l : List ℕ). slice_range l x (x + size)) h.are_bytes
    ∙ slice_front (drop offset file) len x (x + size) (omega (arith, inside.0, end))
    ∙ ap (λ (l : List ℕ). take (x + size - x) l) (drop-drop x offset file)
    ∙ ap (λ (n : ℕ). take n (drop (offset + x) file)) (omega arith)
    ∙ ap (λ (n : ℕ). slice_range file n (n + size)) (sym at) in
    (rw t there, rw t (ap (λ (l : List ℕ). Some l) (sym part)))

pub read_left : (c : MappedProgress) (file : List ℕ) (b first after offset len : ℕ) (contents : List ℕ) → 0 < c.given.page_size → b < length c.blocks
    → after ≤ (mapped_block c.blocks b).pages → AreRead c file b first after offset len contents
    → pages_left c file (place_at b first)
    ≡ records_bytes (index_table c) b (part_of c.given.page_size contents first) (range_with_len first (after - first)) ++ pages_left c file (place_at b after)
read_left c file b first after offset len contents some lt high h =
    split_left c file b first after (part_of c.given.page_size contents first) lt h.low high (read_there c file b first after offset len contents some h)

-- If the file ended inside the next page, nothing more is to come.
pub cut_left : (c : MappedProgress) (file : List ℕ) (b page : ℕ) → b < length c.blocks → page < (mapped_block c.blocks b).pages → bit c b page ≡ true
    → length file < page_offset c.given.page_size (mapped_block c.blocks b) page + c.given.page_size → pages_left c file (place_at b page) ≡ []
cut_left c file b page lt inside set short =
    let n : (block (index_table c).blocks b).pages - page ≡ suc ((block (index_table c).blocks b).pages - page - 1) =
    omega (arith, inside, same_pages c b lt) in
    let past : leb (page_offset c.given.page_size (mapped_block c.blocks b) page + c.given.page_size) (length file) ≡ false =
    lt-leb (page_offset c.given.page_size (mapped_block c.blocks b) page + c.given.page_size) (length file) short in
    let come : has_come c.given file (mapped_block c.blocks b) page ≡ false = rw set past in
    rw n (rw come refl)

-- If the file ended before all that was to be read, it ended inside the next page.
pub cut_here : (c : MappedProgress) (file contents : List ℕ) (b first after end offset len : ℕ) → AreRead c file b first after offset len contents
    → after ≤ end → length contents < len → len ≤ (end - first) * c.given.page_size
    → (after < end → length contents < (after - first + 1) * c.given.page_size)
    → (after < end) × (length file < page_offset c.given.page_size (mapped_block c.blocks b) after + c.given.page_size)
cut_here c file contents b first after end offset len h last short few all =
    let size : ℕ = c.given.page_size in
    let lt : after < end = elim (cases_lt after end) [
      | inr past ↦ let same : end ≡ after = omega (arith, past, last) in
          let both : (end - first) * size ≡ (after - first) * size = ap (λ (m : ℕ). (m - first) * size) same in
          absurd (omega (arith, both, h.fits, short, few))
      | inl before ↦ before
    ] in
    let less = all lt in
    let more = product_more (after - first) size in
    let n : length contents ≡ min len (length (drop offset file)) = ap (λ (l : List ℕ). length l) h.are_bytes ∙ length-take len (drop offset file) in
    let m : length (drop offset file) ≡ length file - offset = length-drop offset file in
    let at : page_offset size (mapped_block c.blocks b) after ≡ offset + (after - first) * size = offset_from c b first after offset h.low h.has_offset in
    (lt, omega (arith, at, n, m, less, more, short))
