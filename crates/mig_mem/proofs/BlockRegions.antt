-- The pages of a block in regions: where they lie, one that is written, and blocks of zeros.
use Rattle.std.proofs.Common.{ℕ, ◌≡◌, ◌≢◌, ◌<◌, ◌≤◌, ◌+◌, ◌-◌, ◌*◌, ◌/◌, ◌%◌, ◌^◌, List, [], length, min, map, get_or, set, replicate, get_or-set_same}
use Rattle.std.proofs.Common.{get_or-set_other, refl, sym, ap, ◌∙◌, arith, inl, inr}
use Rattle.std.proofs.lemmas.Bool.{cases_eq}
use Rattle.std.proofs.lemmas.List.{length-map, length-set, length-replicate, get_or-map, get_or-replicate, get_or_default, ext_get_or}
use Rattle.std.proofs.lemmas.List.Elements.{All-set}
use Rattle.std.proofs.lemmas.List.FromFn.{length-range_with_len, get_or-map-range_with_len, length-map-range_with_len}
use Rattle.std.proofs.lemmas.Nat.{div-add-mod'}
use Rattle.std.specs.List.{range_with_len}
use Rattle.mig_mem.specs.PageSize.{IsPageSize}
use Rattle.mig_mem.specs.Image.{zero_page}
use Rattle.mig_mem.specs.BlockPages.{BlockPages, no_pages, page_at, with_content, cleared}
use Rattle.mig_mem.specs.Regions.{region_of, IsRegion, AreRegions, in_regions, zero_region}
use Rattle.mig_mem.proofs.PageSizes.{page_of_offset}

-- ---- where the pages lie

-- the page of a number, as the view of a block has it
abbrev placed : ℕ → List BlockPages → ℕ → List ℕ
placed per rs k = page_at (region_of rs (k / per)) (k % per)

-- a block in regions has as many pages as it was given
pub regions_len : (per size count : ℕ) (rs : List BlockPages) → length (in_regions per size count rs).pages ≡ count
unfolding in_regions
regions_len per size count rs = length-map (range_with_len 0 count) (placed per rs) ∙ length-range_with_len 0 count

-- a page of the block is the page of its region, at its number there
pub regions_page : (per size count : ℕ) (rs : List BlockPages) (k : ℕ) → k < count
    → page_at (in_regions per size count rs) k ≡ page_at (region_of rs (k / per)) (k % per)
unfolding in_regions
regions_page per size count rs k lt = get_or-map-range_with_len (placed per rs) 0 count k k [] lt (omega arith)

-- a block in regions has the pages' size that it was given
pub regions_size : (per size count : ℕ) (rs : List BlockPages) → (in_regions per size count rs).size ≡ size
unfolding in_regions
regions_size per size count rs = refl

-- a page of the block is one of those that the regions have
pub has_count : (per size count : ℕ) (rs : List BlockPages) (b : BlockPages) (i : ℕ) → in_regions per size count rs ≡ b → i < length b.pages → i < count
has_count per size count rs b i is lt = omega (arith, ap (λ (x : BlockPages). length x.pages) is, regions_len per size count rs)

-- the region that is read for a page
pub region_read : (per size count : ℕ) (rs : List BlockPages) (i : ℕ) (x : BlockPages) → AreRegions per size count rs → i < count
    → x ≡ get_or rs (i / per) x → x ≡ region_of rs (i / per)
region_read per size count rs i x are lt e = e ∙ get_or_default rs (i / per) x no_pages (are.has_regions i lt)

-- has the page
pub region_has : (per size count : ℕ) (rs : List BlockPages) (i : ℕ) (x : BlockPages) → AreRegions per size count rs → i < count
    → x ≡ get_or rs (i / per) x → i % per < length x.pages
region_has per size count rs i x are lt e =
    let here : x ≡ region_of rs (i / per) = region_read per size count rs i x are lt e in
    let there : i % per < length (region_of rs (i / per)).pages = are.has_pages i lt in
    omega (arith, ap (λ (b : BlockPages). length b.pages) here)

-- of the block's size
pub region_size : (per size count : ℕ) (rs : List BlockPages) (i : ℕ) (x : BlockPages) → AreRegions per size count rs → i < count
    → x ≡ get_or rs (i / per) x → x.size ≡ size
region_size per size count rs i x are lt e =
    ap (λ (b : BlockPages). b.size) (region_read per size count rs i x are lt e) ∙ (are.are_each (i / per) no_pages (are.has_regions i lt)).same_size

-- and with the block's content
pub region_page : (per size count : ℕ) (rs : List BlockPages) (i : ℕ) (x : BlockPages) → AreRegions per size count rs → i < count → x ≡ get_or rs (i / per) x
    → page_at x (i % per) ≡ page_at (in_regions per size count rs) i
region_page per size count rs i x are lt e =
    ap (λ (b : BlockPages). page_at b (i % per)) (region_read per size count rs i x are lt e) ∙ sym (regions_page per size count rs i lt)

-- ---- a page is written

-- pages of one region have numbers of their own there
other_page : (per k i : ℕ) → k ≢ i → k / per ≡ i / per → k % per ≢ i % per
other_page per k i other same = λ e. other (
    sym (div-add-mod' k per)
    ∙ ap (λ (q : ℕ). q * per + k % per) same
    ∙ ap (λ (r : ℕ). i / per * per + r) e
    ∙ div-add-mod' i per)

-- regions stay regions of the block if one page is written
pub write_are : (per size count : ℕ) (rs : List BlockPages) (i : ℕ) (x : BlockPages) (content : List ℕ)
    → AreRegions per size count rs → i < count → x ≡ get_or rs (i / per) x
    → AreRegions per size count (set rs (i / per) (with_content x (i % per) content))
write_are per size count rs i x content are lt e =
    let n : ℕ = i / per in
    let new : BlockPages = with_content x (i % per) content in
    let here : x ≡ region_of rs n = region_read per size count rs i x are lt e in
    let was : IsRegion per size (region_of rs n) = are.are_each n no_pages (are.has_regions i lt) in
    let many : length new.pages ≡ length x.pages = length-set x.pages (i % per) content in
    let long : length (set rs n new) ≡ length rs = length-set rs n new in
    let is : IsRegion per size new = record {
      same_size = ap (λ (b : BlockPages). b.size) here ∙ was.same_size;
      at_most = rw (many, here) was.at_most;
    } in
    record {
      is_some = are.is_some;
      has_room = rw long are.has_room;
      are_each = All-set (IsRegion per size) rs n new is are.are_each;
      has_regions = λ k low. rw long (are.has_regions k low);
      has_pages = λ k low. elim (cases_eq (k / per) n) [
        | inl at ↦
            let there : region_of (set rs n new) (k / per) ≡ new = ap (λ (j : ℕ). region_of (set rs n new) j) at
            ∙ get_or-set_same rs n new no_pages (are.has_regions i lt) in
            let old : region_of rs (k / per) ≡ x = ap (λ (j : ℕ). region_of rs j) at ∙ sym here in
            let inside : k % per < length (region_of rs (k / per)).pages = are.has_pages k low in
            rw (there, many) (rw old at inside)
        | inr away ↦
            let there : region_of (set rs n new) (k / per) ≡ region_of rs (k / per) = get_or-set_other rs n (k / per) new no_pages away in
            rw there (are.has_pages k low)
      ];
    }

-- what a page of the block is then
written_page : (per size count : ℕ) (rs : List BlockPages) (i : ℕ) (x : BlockPages) (content : List ℕ) (k : ℕ)
    → AreRegions per size count rs → i < count → x ≡ get_or rs (i / per) x → k ≢ i
    → placed per (set rs (i / per) (with_content x (i % per) content)) k ≡ placed per rs k
written_page per size count rs i x content k are lt e other =
    let n : ℕ = i / per in
    let new : BlockPages = with_content x (i % per) content in
    elim (cases_eq (k / per) n) [
      | inl at ↦
          let there : region_of (set rs n new) (k / per) ≡ new = ap (λ (j : ℕ). region_of (set rs n new) j) at
          ∙ get_or-set_same rs n new no_pages (are.has_regions i lt) in
          let old : x ≡ region_of rs (k / per) = region_read per size count rs i x are lt e ∙ ap (λ (j : ℕ). region_of rs j) (sym at) in
          ap (λ (b : BlockPages). page_at b (k % per)) there
          ∙ get_or-set_other x.pages (i % per) (k % per) content [] (other_page per k i other at)
          ∙ ap (λ (b : BlockPages). page_at b (k % per)) old
      | inr away ↦ ap (λ (b : BlockPages). page_at b (k % per)) (get_or-set_other rs n (k / per) new no_pages away)
    ]

-- a page that is written into its region is written into the block
pub write_is : (per size count : ℕ) (rs : List BlockPages) (i : ℕ) (x : BlockPages) (content : List ℕ)
    → AreRegions per size count rs → i < count → x ≡ get_or rs (i / per) x
    → in_regions per size count (set rs (i / per) (with_content x (i % per) content)) ≡ with_content (in_regions per size count rs) i content
unfolding in_regions
write_is per size count rs i x content are lt e =
    let n : ℕ = i / per in
    let new : BlockPages = with_content x (i % per) content in
    let old : List (List ℕ) = map (placed per rs) (range_with_len 0 count) in
    let now : List (List ℕ) = map (placed per (set rs n new)) (range_with_len 0 count) in
    let many : length now ≡ count = length-map-range_with_len (placed per (set rs n new)) 0 count in
    let was : length old ≡ count = length-map-range_with_len (placed per rs) 0 count in
    ap (λ (l : List (List ℕ)). record { size = size; pages = l })
    (ext_get_or [] now (set old i content) (many ∙ sym was ∙ sym (length-set old i content)) (λ k lk.
    let low : k < count = omega (arith, many, lk) in
    get_or-map-range_with_len (placed per (set rs n new)) 0 count k k [] low (omega arith)
    ∙ elim (cases_eq k i) [
      | inl at ↦
          ap (λ (j : ℕ). placed per (set rs n new) j) at
          ∙ ap (λ (b : BlockPages). page_at b (i % per)) (get_or-set_same rs n new no_pages (are.has_regions i lt))
          ∙ get_or-set_same x.pages (i % per) content [] (region_has per size count rs i x are lt e)
          ∙ sym (get_or-set_same old i content [] (omega (arith, was, lt)))
          ∙ ap (λ (j : ℕ). get_or (set old i content) j []) (sym at)
      | inr other ↦
          written_page per size count rs i x content k are lt e other
          ∙ sym (get_or-map-range_with_len (placed per rs) 0 count k k [] low (omega arith))
          ∙ sym (get_or-set_other old i k content [] other)
    ]))

-- ---- a block of zeros

-- a block has few pages
pub few_pages : (size count : ℕ) → IsPageSize size → count * size ≤ 2 ^ 40 → count ≤ 2 ^ 28
few_pages size count is room = elim is [
  | inl e ↦ let r : count * 4096 ≤ 2 ^ 40 = rw e at room in omega arith
  | inr e ↦ let r : count * 8192 ≤ 2 ^ 40 = rw e at room in omega arith
]

-- and some of its pages have no more bytes
pub fewer_pages : (some count size : ℕ) → some ≤ count → count * size ≤ 2 ^ 40 → some * size ≤ 2 ^ 40
fewer_pages some count size le room = grind arith

zero_at : (per size count n i : ℕ) → i < n → region_of (map (zero_region per size count) (range_with_len 0 n)) i ≡ zero_region per size count i
zero_at per size count n i lt = get_or-map-range_with_len (zero_region per size count) 0 n i i no_pages lt (omega arith)

-- a page of it is in its region
zero_inside : (per count k : ℕ) → 0 < per → k < count → k % per < min (count - k / per * per) per
zero_inside per count k some lt =
    let low : k % per < per = omega arith in
    let parts : k / per * per + k % per ≡ k = div-add-mod' k per in
    omega arith

-- as many regions of zeros as a block needs are regions of it
pub zeros_are_regions : (per size count n : ℕ) (rs : List BlockPages) → rs ≡ map (zero_region per size count) (range_with_len 0 n)
    → 0 < per → n * per ≤ 2 ^ 40 → count ≤ n * per → AreRegions per size count rs
zeros_are_regions per size count n rs made some room enough =
    let zs : List BlockPages = map (zero_region per size count) (range_with_len 0 n) in
    let long : length zs ≡ n = length-map-range_with_len (zero_region per size count) 0 n in
    rw made (record {
      is_some = some;
      has_room = rw long room;
      are_each = λ i d lt.
          let low : i < n = omega (arith, long, lt) in
          let is : get_or zs i d ≡ zero_region per size count i = get_or_default zs i d no_pages lt ∙ zero_at per size count n i low in
          rw is (record { same_size = refl; at_most = rw (length-replicate (min (count - i * per) per) (zero_page size)) (omega arith) });
      has_regions = λ k lt. rw long (page_of_offset per n k some (omega arith));
      has_pages = λ k lt.
          let low : k / per < n = page_of_offset per n k some (omega arith) in
          rw (zero_at per size count n (k / per) low, length-replicate (min (count - k / per * per) per) (zero_page size)) (zero_inside per count k some lt);
    })

-- a block in regions of zeros has zeros in all its pages
pub zeros_in_regions : (per size count n : ℕ) (rs : List BlockPages) → rs ≡ map (zero_region per size count) (range_with_len 0 n) → 0 < per → count ≤ n * per
    → in_regions per size count rs ≡ record { size = size; pages = replicate count (zero_page size) }
unfolding in_regions
zeros_in_regions per size count n rs made some enough =
    let zs : List BlockPages = map (zero_region per size count) (range_with_len 0 n) in
    let now : List (List ℕ) = map (placed per zs) (range_with_len 0 count) in
    let many : length now ≡ count = length-map-range_with_len (placed per zs) 0 count in
    let pages : now ≡ replicate count (zero_page size) =
    ext_get_or [] now (replicate count (zero_page size)) (many ∙ sym (length-replicate count (zero_page size))) (λ k lk.
    let lt : k < count = omega (arith, many, lk) in
    let low : k / per < n = page_of_offset per n k some (omega arith) in
    get_or-map-range_with_len (placed per zs) 0 count k k [] lt (omega arith)
    ∙ ap (λ (b : BlockPages). page_at b (k % per)) (zero_at per size count n (k / per) low)
    ∙ get_or-replicate (min (count - k / per * per) per) (k % per) (zero_page size) [] (zero_inside per count k some lt)
    ∙ sym (get_or-replicate count k (zero_page size) [] lt)) in
    rw made (ap (λ (l : List (List ℕ)). record { size = size; pages = l }) pages)

-- ---- all pages are set to zeros

cleared_at : (rs : List BlockPages) (i : ℕ) → i < length rs → region_of (map cleared rs) i ≡ cleared (region_of rs i)
cleared_at rs i lt = get_or-map cleared rs i no_pages no_pages lt

-- regions stay regions of the block if all their pages are set to zeros
pub cleared_are : (per size count : ℕ) (rs : List BlockPages) → AreRegions per size count rs → AreRegions per size count (map cleared rs)
cleared_are per size count rs are =
    let long : length (map cleared rs) ≡ length rs = length-map rs cleared in
    record {
      is_some = are.is_some;
      has_room = rw long are.has_room;
      are_each = λ i d lt.
          let low : i < length rs = omega (arith, long, lt) in
          let x : BlockPages = region_of rs i in
          let was : IsRegion per size x = are.are_each i no_pages low in
          let is : get_or (map cleared rs) i d ≡ cleared x = get_or-map cleared rs i no_pages d low in
          rw is (record { same_size = was.same_size; at_most = rw (length-replicate (length x.pages) (zero_page x.size)) was.at_most });
      has_regions = λ k lt. rw long (are.has_regions k lt);
      has_pages = λ k lt.
          let x : BlockPages = region_of rs (k / per) in
          rw (cleared_at rs (k / per) (are.has_regions k lt), length-replicate (length x.pages) (zero_page x.size)) (are.has_pages k lt);
    }

-- and the block has zeros in all its pages
pub cleared_is : (per size count : ℕ) (rs : List BlockPages) → AreRegions per size count rs
    → in_regions per size count (map cleared rs) ≡ cleared (in_regions per size count rs)
unfolding in_regions
cleared_is per size count rs are =
    let old : List (List ℕ) = map (placed per rs) (range_with_len 0 count) in
    let now : List (List ℕ) = map (placed per (map cleared rs)) (range_with_len 0 count) in
    let many : length now ≡ count = length-map-range_with_len (placed per (map cleared rs)) 0 count in
    let was : length old ≡ count = length-map-range_with_len (placed per rs) 0 count in
    ap (λ (l : List (List ℕ)). record { size = size; pages = l })
    (ext_get_or [] now (replicate (length old) (zero_page size)) (many ∙ sym was ∙ sym (length-replicate (length old) (zero_page size))) (λ k lk.
    let lt : k < count = omega (arith, many, lk) in
    let there : k / per < length rs = are.has_regions k lt in
    let x : BlockPages = region_of rs (k / per) in
    get_or-map-range_with_len (placed per (map cleared rs)) 0 count k k [] lt (omega arith)
    ∙ ap (λ (b : BlockPages). page_at b (k % per)) (cleared_at rs (k / per) there)
    ∙ get_or-replicate (length x.pages) (k % per) (zero_page x.size) [] (are.has_pages k lt)
    ∙ ap (λ (s : ℕ). zero_page s) (are.are_each (k / per) no_pages there).same_size
    ∙ sym (get_or-replicate (length old) k (zero_page size) [] (omega (arith, was, lt)))))
