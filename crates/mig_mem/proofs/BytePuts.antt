-- Pages that are put into a part of a block, and into all its parts.
use Rattle.std.proofs.Common.{ℕ, ◌≡◌, ◌<◌, ◌≤◌, ◌+◌, ◌-◌, ◌*◌, ◌/◌, ◌%◌, ◌++◌, ◌∷◌, [], List, Option, Some, None, length, min, map, take, drop, get_or, set}
use Rattle.std.proofs.Common.{get_or-set_same, get_or-set_other, refl, sym, ap, ◌∙◌, arith, inl, inr}
use Rattle.std.specs.Prelude.{if◌then◌else◌}
use Rattle.std.specs.Option.{option_map_or}
use Rattle.std.proofs.lemmas.Bool.{cases_Bool, cases_eq}
use Rattle.std.proofs.Math.Nat.{mul_comm}
use Rattle.std.proofs.lemmas.Nat.{div-mul-add}
use Rattle.std.proofs.lemmas.List.{map-set, length-map, length-set, length-take, length-drop, take-take, drop-take, drop-drop}
use Rattle.mig_mem.proofs.PageSizes.{page_before}
use Rattle.mig_mem.proofs.Rounds.{last_at-nil, last_at-cons, map_or-or}
use Rattle.mig_mem.proofs.Lents.{loan_at}
use Rattle.mig_mem.proofs.Images.{image_agree, content_at-image_of}
use Rattle.mig_mem.specs.declared.place.Place.{Place}
use Rattle.mig_mem.specs.Place.{place_at, place_eq}
use Rattle.mig_mem.specs.RamTable.{RamTable, block}
use Rattle.mig_mem.specs.Image.{Page, content_at}
use Rattle.mig_mem.specs.Round.{last_at, with_round}
use Rattle.mig_mem.specs.Lent.{bytes_of_block, lent_at, lent_image, FitTable}
use Rattle.mig_mem.specs.Parts.{part_at}
use Rattle.mig_mem.specs.declared.putting.RoundPage.{RoundPage}
use Rattle.mig_mem.specs.Puts.{bytes_given, given, round_page, PutsAll}

-- 0 and a number make the number
pub zero_plus : (q : ℕ) → 0 + q ≡ q
zero_plus q = omega arith

-- pages, one list after another
pub given-append : (size : ℕ) (p : Place) (xs ys : List RoundPage) (was : List ℕ) → given size p (xs ++ ys) was ≡ given size p ys (given size p xs was)
given-append size p [] ys was = refl
given-append size p (x ∷ xs) ys was = given-append size p xs ys (if place_eq x.place p then bytes_given size x else was)

-- pages that are put after others are put with them
pub puts_more : (size b first : ℕ) (old mid new : List ℕ) (xs ys : List RoundPage) → PutsAll size b first old mid xs
    → PutsAll size b first mid new ys → PutsAll size b first old new (xs ++ ys)
puts_more size b first old mid new xs ys one two = record {
  len = two.len ∙ one.len;
  each = λ q room.
      let there : q * size + size ≤ length mid = omega (arith, one.len, room) in
      let p : Place = place_at b (first + q) in
      two.each q there ∙ ap (λ (was : List ℕ). given size p ys was) (one.each q room) ∙ sym (given-append size p xs ys (part_at size old q));
}

-- as the round has it
pub given_last : (size : ℕ) (p : Place) (xs : List RoundPage) (was : List ℕ)
    → given size p xs was ≡ option_map_or (λ (x : Page). x.content) (last_at p (map (round_page size) xs)) was
given_last size p [] was = rw last_at-nil refl
given_last size p (x ∷ xs) was =
    let one : Option Page = if place_eq x.place p then Some (round_page size x) else None in
    let rest : List Page = map (round_page size) xs in
    given_last size p xs (if place_eq x.place p then bytes_given size x else was)
    ∙ ap (λ (c : List ℕ). option_map_or (λ (x : Page). x.content) (last_at p rest) c)
    (elim (cases_Bool (place_eq x.place p)) [ inl t ↦ rw t refl | inr f ↦ rw f refl ])
    ∙ sym (map_or-or (last_at p rest) one was)
    ∙ ap (λ (o : Option Page). option_map_or (λ (x : Page). x.content) o was) (sym (last_at-cons p (round_page size x) rest))

-- EACH BLOCK HAS ITS PAGES: so the memory has the round
pub puts_image : (table : RamTable) (olds news : List (List ℕ)) (pages : List RoundPage) → FitTable table olds
    → ((k : ℕ) → k < length table.blocks → PutsAll table.page_size k 0 (bytes_of_block olds k) (bytes_of_block news k) pages)
    → lent_image table news ≡ with_round (lent_image table olds) (map (round_page table.page_size) pages)
puts_image table olds news pages fit h =
    image_agree table (lent_at table.page_size news)
    (λ p. option_map_or (λ (x : Page). x.content) (last_at p (map (round_page table.page_size) pages)) (content_at (lent_image table olds) p)) (λ p is.
    let inside : p.page * table.page_size + table.page_size ≤ (block table.blocks p.block).pages * table.page_size =
    page_before table.page_size (block table.blocks p.block).pages p.page is.has_page in
    let room : p.page * table.page_size + table.page_size ≤ length (bytes_of_block olds p.block) = omega (arith, inside, fit.has_sizes p.block is.has_block) in
    (h p.block is.has_block).each p.page room
    ∙ ap (λ (q : ℕ). given table.page_size (place_at p.block q) pages (lent_at table.page_size olds p)) (zero_plus p.page)
    ∙ given_last table.page_size p pages (lent_at table.page_size olds p)
    ∙ ap (λ (c : List ℕ). option_map_or (λ (x : Page). x.content) (last_at p (map (round_page table.page_size) pages)) c)
    (sym (content_at-image_of table (lent_at table.page_size olds) p is)))

-- ---- a block in chunks of whole pages

-- a page of a chunk is one of the whole
pub part_in_chunk : (size count : ℕ) (xs : List ℕ) (n r q : ℕ) → r < count → n * (count * size) + r * size ≡ q * size
    → part_at size (take (count * size) (drop (n * (count * size)) xs)) r ≡ part_at size xs q
part_in_chunk size count xs n r q low from =
    let room : r * size + size ≤ count * size = page_before size count r low in
    let m : ℕ = count * size - r * size in
    let whole : count * size ≡ r * size + m = omega (arith, room) in
    let rest : List ℕ = drop (n * (count * size)) xs in
    ap (λ (w : ℕ). take size (drop (r * size) (take w rest))) whole
    ∙ ap (λ (l : List ℕ). take size l) (drop-take (r * size) m rest)
    ∙ take-take size m (drop (r * size) rest) (omega (arith, room))
    ∙ ap (λ (l : List ℕ). take size l) (drop-drop (r * size) (n * (count * size)) xs)
    ∙ ap (λ (k : ℕ). take size (drop k xs)) from

at_page : (size count n r q : ℕ) → q ≡ n * count + r → n * (count * size) + r * size ≡ q * size
at_page size count n r q is = rw is (grind arith)

-- EACH CHUNK HAS ITS PAGES: so has the block
pub puts_all : (size count at : ℕ) (old new : List ℕ) (pages : List RoundPage) → 0 < size → 0 < count → length new ≡ length old
    → ((n : ℕ) → n * (count * size) < length old
    → PutsAll size at (n * count) (take (count * size) (drop (n * (count * size)) old)) (take (count * size) (drop (n * (count * size)) new)) pages)
    → PutsAll size at 0 old new pages
puts_all size count at old new pages some many len h = record {
  len = len;
  each = λ q room.
      let n : ℕ = q / count in
      let r : ℕ = q % count in
      let is : q ≡ n * count + r = omega (arith, mul_comm count n) in
      let low : r < count = omega arith in
      let from : n * (count * size) + r * size ≡ q * size = at_page size count n r q is in
      let before : r * size + size ≤ count * size = page_before size count r low in
      let there : n * (count * size) < length old = omega (arith, from, room) in
      let chunk : List ℕ = take (count * size) (drop (n * (count * size)) old) in
      let long : length chunk ≡ min (count * size) (length old - n * (count * size)) =
      length-take (count * size) (drop (n * (count * size)) old) ∙ ap (λ (k : ℕ). min (count * size) k) (length-drop (n * (count * size)) old) in
      sym (part_in_chunk size count new n r q low from)
      ∙ (h n there).each r (omega (arith, long, from, room, before))
      ∙ ap (λ (page : ℕ). given size (place_at at page) pages (part_at size chunk r)) (sym is ∙ sym (zero_plus q))
      ∙ ap (λ (was : List ℕ). given size (place_at at (0 + q)) pages was) (part_in_chunk size count old n r q low from);
}

-- the first page of a chunk
pub first_page : (size count n : ℕ) → 0 < size → n * (count * size) / size ≡ n * count
first_page size count n some =
    let e : n * (count * size) ≡ (n * count) * size + 0 = grind arith in
    rw e (div-mul-add (n * count) size 0 some)

-- ---- block after block

-- the blocks before have their pages, and those from it on are as they were
pub record DoneTo {T : Type 0} (bytes : T → List ℕ) (size b : ℕ) (start loans : List T) (pages : List RoundPage) : Type 0 where
  pub len : length loans ≡ length start
  pub before : (k : ℕ) → k < b → PutsAll size k 0 (bytes_of_block (map bytes start) k) (bytes_of_block (map bytes loans) k) pages
  pub behind : (k : ℕ) → b ≤ k → bytes_of_block (map bytes loans) k ≡ bytes_of_block (map bytes start) k

-- a block whose pages were put is added to those before it
pub done_more : {T : Type 0} (bytes : T → List ℕ) (size b : ℕ) (start loans : List T) (x d : T) (pages : List RoundPage)
    → DoneTo bytes size b start loans pages → b < length loans
    → PutsAll size b 0 (bytes (get_or loans b d)) (bytes x) pages
    → DoneTo bytes size (b + 1) start (set loans b x) pages
done_more {T} bytes size b start loans x d pages done lt puts =
    let was : List (List ℕ) = map bytes loans in
    let is : map bytes (set loans b x) ≡ set was b (bytes x) = map-set bytes loans b x in
    let there : bytes_of_block (set was b (bytes x)) b ≡ bytes x = get_or-set_same was b (bytes x) [] (omega (arith, length-map loans bytes, lt)) in
    let old : bytes (get_or loans b d) ≡ bytes_of_block (map bytes start) b = sym (loan_at bytes loans b d lt) ∙ done.behind b (omega arith) in
    let here : PutsAll size b 0 (bytes_of_block (map bytes start) b) (bytes_of_block (set was b (bytes x)) b) pages = rw (there, ← old) puts in
    record {
      len = length-set loans b x ∙ done.len;
      before = λ k low. rw is (elim (cases_eq k b) [
        | inl at ↦ rw at here
        | inr other ↦ rw (get_or-set_other was b k (bytes x) [] other) (done.before k (omega (arith, other)))
      ]);
      behind = λ k from. rw is (get_or-set_other was b k (bytes x) [] (λ e. omega (arith, e)) ∙ done.behind k (omega arith));
    }
