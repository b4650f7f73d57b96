-- Pages of a round that are put into the regions of a block, and into the blocks of a memory.
use Rattle.std.proofs.Common.{ℕ, ◌≡◌, ◌≢◌, ◌<◌, ◌≤◌, ◌+◌, ◌-◌, ◌*◌, ◌/◌, ◌%◌, ◌++◌, ◌∷◌, [], List, Option, Some, None, length, min, map, take, drop, get_or}
use Rattle.std.proofs.Common.{set, get_or-set_same, get_or-set_other, refl, sym, ap, subst, ◌∙◌, arith, inl, inr}
use Rattle.std.specs.Prelude.{if◌then◌else◌, IfSome}
use Rattle.std.specs.Borrow.{Bor}
use Rattle.std.specs.List.{All}
use Rattle.std.specs.Option.{option_map_or, option_copied, unwrap_or}
use Rattle.std.proofs.lemmas.Bool.{cases_Bool, cases_eq}
use Rattle.std.proofs.lemmas.Nat.{div-mul-add, div-add-mod'}
use Rattle.std.proofs.lemmas.List.{length-set, length-take, length-drop, get_or-take, get_or-drop, get_or_default}
use Rattle.std.proofs.lemmas.List.Elements.{All-head, All-tail}
use Rattle.mig_mem.proofs.PlaceOrder.{place_eq-true}
use Rattle.mig_mem.proofs.Images.{image_agree, content_at-image_of}
use Rattle.mig_mem.proofs.Slotted.{length-zero_page}
use Rattle.mig_mem.proofs.BytePuts.{zero_plus, given-append, given_last}
use Rattle.mig_mem.proofs.BlockRegions.{regions_len, regions_page}
use Rattle.mig_mem.specs.declared.place.Place.{Place}
use Rattle.mig_mem.specs.declared.putting.RoundPage.{RoundPage}
use Rattle.mig_mem.specs.RamTable.{RamTable, block}
use Rattle.mig_mem.specs.Place.{place_at, place_eq}
use Rattle.mig_mem.specs.Image.{Page, content_at, zero_page}
use Rattle.mig_mem.specs.Round.{last_at, with_round}
use Rattle.mig_mem.specs.BlockPages.{BlockPages, no_pages, page_at, with_content}
use Rattle.mig_mem.specs.Buffers.{pages_of_block, held_at, HasPages, IsHeld, image_in}
use Rattle.mig_mem.specs.Regions.{region_of, IsRegion, AreRegions, in_regions}
use Rattle.mig_mem.specs.Puts.{bytes_given, HasPageSize, round_page, given, PutsPages, PutsRegions}

-- ---- some pages of a block

-- no page
pub pages_none : (size b first : ℕ) (old : BlockPages) → PutsPages size b first old old []
pages_none size b first old = record { same_size = refl; same_count = refl; each = λ q low. refl }

-- pages, one list after another
pub pages_more : (size b first : ℕ) (old mid new : BlockPages) (xs ys : List RoundPage) → PutsPages size b first old mid xs
    → PutsPages size b first mid new ys → PutsPages size b first old new (xs ++ ys)
pages_more size b first old mid new xs ys one two = record {
  same_size = two.same_size ∙ one.same_size;
  same_count = two.same_count ∙ one.same_count;
  each = λ q low.
      let there : q < length mid.pages = omega (arith, one.same_count, low) in
      let p : Place = place_at b (first + q) in
      two.each q there ∙ ap (λ (was : List ℕ). given size p ys was) (one.each q low) ∙ sym (given-append size p xs ys (page_at old q));
}

-- a page that lies there; where the block ends before it, nothing changes
pub pages_one : (size b first i : ℕ) (old : BlockPages) (x : RoundPage) → x.place.block ≡ b → x.place.page ≡ first + i
    → PutsPages size b first old (with_content old i (bytes_given size x)) (x ∷ [])
pages_one size b first i old x same is = record {
  same_size = refl;
  same_count = length-set old.pages i (bytes_given size x);
  each = λ q low. elim (cases_Bool (place_eq x.place (place_at b (first + q)))) [
    | inl t ↦
        let e : x.place.page ≡ first + q = ap (λ (p : Place). p.page) (place_eq-true x.place (place_at b (first + q)) t) in
        let here : q ≡ i = omega (arith, e, is) in
        let inside : i < length old.pages = omega (arith, here, low) in
        rw t (ap (λ (k : ℕ). get_or (set old.pages i (bytes_given size x)) k []) here ∙ get_or-set_same old.pages i (bytes_given size x) [] inside)
    | inr f ↦
        let n : q ≢ i = λ e. grind (arith, f, is, same) in
        rw f (get_or-set_other old.pages i q (bytes_given size x) [] n)
  ];
}

-- a page that lies elsewhere
pub pages_elsewhere : (size b first : ℕ) (old : BlockPages) (x : RoundPage)
    → ((q : ℕ) → q < length old.pages → x.place ≢ place_at b (first + q)) → PutsPages size b first old old (x ∷ [])
pages_elsewhere size b first old x none = record {
  same_size = refl;
  same_count = refl;
  each = λ q low. elim (cases_Bool (place_eq x.place (place_at b (first + q)))) [
    | inl t ↦ absurd (none q low (place_eq-true x.place (place_at b (first + q)) t))
    | inr f ↦ rw f refl
  ];
}

-- what a place is given has the page size
bytes_of : (size : ℕ) (content : Option (Bor (List ℕ))) → IfSome content (λ bytes. length bytes.now ≡ size)
    → length (unwrap_or (option_copied content) (zero_page size)) ≡ size
bytes_of size None h = length-zero_page size
bytes_of size (Some bytes) h = h

-- what a round gives a page has the page's size
pub given_size : (size : ℕ) (p : Place) (xs : List RoundPage) (was : List ℕ) → All (HasPageSize size) xs → length was ≡ size
    → length (given size p xs was) ≡ size
given_size size p [] was sizes len = len
given_size size p (x ∷ xs) was sizes len =
    given_size size p xs (if place_eq x.place p then bytes_given size x else was) (All-tail (HasPageSize size) x xs sizes)
    (elim (cases_Bool (place_eq x.place p)) [
      | inl t ↦ rw t (bytes_of size x.content (All-head (HasPageSize size) x xs sizes))
      | inr f ↦ rw f len
    ])

-- ---- regions

-- the region that a page lies in, and its number there
pub region_is : (per first n i page : ℕ) → i < per → page ≡ first + n * per + i → (page - first) / per ≡ n
region_is per first n i page low is =
    let e : page - first ≡ n * per + i = omega (arith, is) in
    rw e (div-mul-add n per i low)

-- no pages leave the regions as they are
pub regions_none : (size per b first : ℕ) (old : List BlockPages) → PutsRegions size per b first old old []
regions_none size per b first old = record { same_len = refl; each = λ i lt. pages_none size b (first + i * per) (region_of old i) }

-- pages that are put after others are put with them
pub regions_more : (size per b first : ℕ) (old mid new : List BlockPages) (xs ys : List RoundPage)
    → PutsRegions size per b first old mid xs → PutsRegions size per b first mid new ys
    → PutsRegions size per b first old new (xs ++ ys)
regions_more size per b first old mid new xs ys one two = record {
  same_len = two.same_len ∙ one.same_len;
  each = λ i lt.
      let there : i < length mid = omega (arith, one.same_len, lt) in
      pages_more size b (first + i * per) (region_of old i) (region_of mid i) (region_of new i) xs ys (one.each i lt) (two.each i there);
}

-- they stay regions
pub regions_stay : (size per b first : ℕ) (old new : List BlockPages) (xs : List RoundPage) → All (IsRegion per size) old
    → PutsRegions size per b first old new xs → All (IsRegion per size) new
regions_stay size per b first old new xs are puts = λ i d lt.
    let low : i < length old = omega (arith, puts.same_len, lt) in
    let same : get_or new i d ≡ region_of new i = get_or_default new i d no_pages lt in
    let was : IsRegion per size (region_of old i) = are i no_pages low in
    let put : PutsPages size b (first + i * per) (region_of old i) (region_of new i) xs = puts.each i low in
    rw same (record { same_size = put.same_size ∙ was.same_size; at_most = omega (arith, put.same_count, was.at_most) })

-- a page that lies in none of them
pub regions_elsewhere : (size per b first : ℕ) (old : List BlockPages) (x : RoundPage) → All (IsRegion per size) old
    → ((n i : ℕ) → n < length old → i < per → x.place ≢ place_at b (first + n * per + i))
    → PutsRegions size per b first old old (x ∷ [])
regions_elsewhere size per b first old x are none = record {
  same_len = refl;
  each = λ n lt. pages_elsewhere size b (first + n * per) (region_of old n) x (λ q low.
      let is : IsRegion per size (region_of old n) = are n no_pages lt in
      none n q lt (omega (arith, is.at_most, low)));
}

-- and one that lies in a region
pub regions_one : (size per b first n i : ℕ) (old : List BlockPages) (x : RoundPage) → All (IsRegion per size) old → n < length old → i < per
    → x.place.block ≡ b → x.place.page ≡ first + n * per + i
    → PutsRegions size per b first old (set old n (with_content (region_of old n) i (bytes_given size x))) (x ∷ [])
regions_one size per b first n i old x are lt inside same is =
    let new : BlockPages = with_content (region_of old n) i (bytes_given size x) in
    record {
      same_len = length-set old n new;
      each = λ k low. elim (cases_eq k n) [
        | inl e ↦ rw (e, get_or-set_same old n new no_pages lt) (pages_one size b (first + n * per) i (region_of old n) x same is)
        | inr other ↦
            let region : IsRegion per size (region_of old k) = are k no_pages low in
            rw (get_or-set_other old n k new no_pages other) (pages_elsewhere size b (first + k * per) (region_of old k) x (λ q less at.
            let page : x.place.page ≡ first + k * per + q = ap (λ (p : Place). p.page) at in
            let within : q < per = omega (arith, region.at_most, less) in
            other (sym (region_is per first k q x.place.page within page) ∙ region_is per first n i x.place.page inside is)))
      ];
    }

-- ---- all regions of a block

first_of : (per count n r i : ℕ) → i ≡ n * count + r → n * count * per + r * per ≡ 0 + i * per
first_of per count n r i is = rw is (grind arith)

-- EACH THREAD'S REGIONS HAVE THEIR PAGES: so have all
pub regions_all : (size per b count : ℕ) (old new : List BlockPages) (pages : List RoundPage) → 0 < count → length new ≡ length old
    → ((n : ℕ) → n * count < length old → PutsRegions size per b (n * count * per) (take count (drop (n * count) old))
    (take count (drop (n * count) new)) pages)
    → PutsRegions size per b 0 old new pages
regions_all size per b count old new pages some len h = record {
  same_len = len;
  each = λ i lt.
      let n : ℕ = i / count in
      let r : ℕ = i % count in
      let is : i ≡ n * count + r = sym (div-add-mod' i count) in
      let low : r < count = omega arith in
      let there : n * count < length old = omega (arith, is, lt) in
      let part : List BlockPages = take count (drop (n * count) old) in
      let long : length part ≡ min count (length old - n * count) =
      length-take count (drop (n * count) old) ∙ ap (λ (k : ℕ). min count k) (length-drop (n * count) old) in
      let inside : r < length part = omega (arith, long, is, lt, low) in
      let was : region_of part r ≡ region_of old i = get_or-take count (drop (n * count) old) r no_pages low
      ∙ get_or-drop (n * count) old r no_pages ∙ ap (λ (j : ℕ). region_of old j) (sym is) in
      let now : region_of (take count (drop (n * count) new)) r ≡ region_of new i =
      get_or-take count (drop (n * count) new) r no_pages low ∙ get_or-drop (n * count) new r no_pages ∙ ap (λ (j : ℕ). region_of new j) (sym is) in
      let puts : PutsPages size b (n * count * per + r * per) (region_of part r)
      (region_of (take count (drop (n * count) new)) r) pages = (h n there).each r inside in
      subst (λ (from : ℕ). PutsPages size b from (region_of old i) (region_of new i) pages) (first_of per count n r i is)
      (subst (λ (x : BlockPages). PutsPages size b (n * count * per + r * per) x (region_of new i) pages) was
      (subst (λ (x : BlockPages). PutsPages size b (n * count * per + r * per) (region_of part r) x pages) now puts));
}

-- EACH REGION HAS ITS PAGES: so has the block
pub block_put : (size per count b : ℕ) (old new : List BlockPages) (pages : List RoundPage) → AreRegions per size count old
    → PutsRegions size per b 0 old new pages
    → PutsPages size b 0 (in_regions per size count old) (in_regions per size count new) pages
unfolding in_regions
block_put size per count b old new pages are puts = record {
  same_size = refl;
  same_count = regions_len per size count new ∙ sym (regions_len per size count old);
  each = λ k low.
      let lt : k < count = rw (← regions_len per size count old) low in
      let i : ℕ = k / per in
      let is : 0 + i * per + k % per ≡ 0 + k = omega (arith, div-add-mod' k per) in
      regions_page per size count new k lt
      ∙ (puts.each i (are.has_regions k lt)).each (k % per) (are.has_pages k lt)
      ∙ ap (λ (q : ℕ). given size (place_at b q) pages (page_at (region_of old i) (k % per))) is
      ∙ ap (λ (was : List ℕ). given size (place_at b (0 + k)) pages was) (sym (regions_page per size count old k lt));
}

-- and they are still its regions
pub regions_kept : (size per count b : ℕ) (old new : List BlockPages) (pages : List RoundPage) → AreRegions per size count old
    → PutsRegions size per b 0 old new pages → AreRegions per size count new
regions_kept size per count b old new pages are puts = record {
  is_some = are.is_some;
  has_room = rw puts.same_len are.has_room;
  are_each = regions_stay size per b 0 old new pages are.are_each puts;
  has_regions = λ k lt. rw puts.same_len (are.has_regions k lt);
  has_pages = λ k lt. rw ((puts.each (k / per) (are.has_regions k lt)).same_count) (are.has_pages k lt);
}

-- ---- block after block

-- the blocks before have their pages, and those from it on are as they were
pub record PutTo (b : ℕ) (start now : List BlockPages) (pages : List RoundPage) : Type 0 where
  pub len : length now ≡ length start
  pub before : (k : ℕ) → k < b → PutsPages (pages_of_block start k).size k 0 (pages_of_block start k) (pages_of_block now k) pages
  pub behind : (k : ℕ) → b ≤ k → pages_of_block now k ≡ pages_of_block start k

-- a block whose pages were put is added to those before it
pub put_to_more : (b : ℕ) (start now : List BlockPages) (x d : BlockPages) (pages : List RoundPage) → PutTo b start now pages → b < length now
    → PutsPages (get_or now b d).size b 0 (get_or now b d) x pages → PutTo (b + 1) start (set now b x) pages
put_to_more b start now x d pages done lt puts =
    let old : get_or now b d ≡ pages_of_block start b = get_or_default now b d no_pages lt ∙ done.behind b (omega arith) in
    let here : PutsPages (pages_of_block start b).size b 0 (pages_of_block start b) x pages =
    subst (λ (y : BlockPages). PutsPages y.size b 0 y x pages) old puts in
    record {
      len = length-set now b x ∙ done.len;
      before = λ k low. elim (cases_eq k b) [
        | inl e ↦ rw (e, get_or-set_same now b x no_pages lt) here
        | inr other ↦ rw (get_or-set_other now b k x no_pages other) (done.before k (omega (arith, other)))
      ];
      behind = λ k from. get_or-set_other now b k x no_pages (λ e. omega (arith, e)) ∙ done.behind k (omega arith);
    }

-- ---- EACH BLOCK HAS ITS PAGES: so the memory has the round

-- blocks into which pages were put are held for the same table
pub blocks_held : (table : RamTable) (olds news : List BlockPages) (pages : List RoundPage) → IsHeld table olds
    → All (HasPageSize table.page_size) pages → length news ≡ length olds
    → ((k : ℕ) → k < length olds → PutsPages table.page_size k 0 (pages_of_block olds k) (pages_of_block news k) pages)
    → IsHeld table news
blocks_held table olds news pages held sizes len h = record {
  is_table = held.is_table;
  same_count = len ∙ held.same_count;
  has_pages = λ k lt.
      let low : k < length olds = omega (arith, held.same_count, lt) in
      let was : HasPages table.page_size (block table.blocks k).pages (pages_of_block olds k) = held.has_pages k lt in
      let put : PutsPages table.page_size k 0 (pages_of_block olds k) (pages_of_block news k) pages = h k low in
      record {
        same_size = put.same_size ∙ was.same_size;
        same_count = put.same_count ∙ was.same_count;
        has_sizes = λ q d inside.
            let there : q < length (pages_of_block olds k).pages = omega (arith, put.same_count, inside) in
            let is : get_or (pages_of_block news k).pages q d ≡ given table.page_size (place_at k (0 + q)) pages (page_at (pages_of_block olds k) q) =
            get_or_default (pages_of_block news k).pages q d [] inside ∙ put.each q there in
            rw is (given_size table.page_size (place_at k (0 + q)) pages (page_at (pages_of_block olds k) q) sizes (was.has_sizes q [] there));
      };
}

-- blocks into which a round's pages were put are the image with the round
pub blocks_image : (table : RamTable) (olds news : List BlockPages) (pages : List RoundPage) → IsHeld table olds
    → ((k : ℕ) → k < length olds → PutsPages table.page_size k 0 (pages_of_block olds k) (pages_of_block news k) pages)
    → image_in table news ≡ with_round (image_in table olds) (map (round_page table.page_size) pages)
blocks_image table olds news pages held h =
    image_agree table (held_at news) (λ p. option_map_or (λ (x : Page). x.content)
    (last_at p (map (round_page table.page_size) pages)) (content_at (image_in table olds) p)) (λ p is.
    let low : p.block < length olds = omega (arith, held.same_count, is.has_block) in
    let inside : p.page < length (pages_of_block olds p.block).pages = omega (arith, (held.has_pages p.block is.has_block).same_count, is.has_page) in
    (h p.block low).each p.page inside
    ∙ ap (λ (q : ℕ). given table.page_size (place_at p.block q) pages (held_at olds p)) (zero_plus p.page)
    ∙ given_last table.page_size p pages (held_at olds p)
    ∙ ap (λ (c : List ℕ). option_map_or (λ (x : Page). x.content) (last_at p (map (round_page table.page_size) pages)) c)
    (sym (content_at-image_of table (held_at olds) p is)))
