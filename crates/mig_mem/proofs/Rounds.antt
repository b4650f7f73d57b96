-- Rounds one after another, and the memory after them.
use Rattle.std.proofs.Common.{ℕ, ◌≡◌, List, [], ◌∷◌, ◌++◌, length, reverse, refl, sym, ap, ◌∙◌, inl, inr, Option, Some, None, true, false}
use Rattle.std.specs.Prelude.{if◌then◌else◌}
use Rattle.std.specs.List.{find, All}
use Rattle.std.specs.Option.{option_map_or, option_or}
use Rattle.std.proofs.lemmas.Bool.{cases_Bool, cond-true, cond-false, or_parts, or_cases}
use Rattle.std.proofs.lemmas.List.{reverse-append, append-nil, length-replicate}
use Rattle.std.proofs.lemmas.List.Concat.{flat_map-append}
use Rattle.std.proofs.lemmas.List.Elements.{All-head, All-tail, All-weaker, All-map}
use Rattle.std.proofs.lemmas.List.Folds.{find-append}
use Rattle.mig_mem.specs.declared.place.Place.{Place}
use Rattle.mig_mem.specs.RamTable.{RamTable}
use Rattle.mig_mem.specs.Place.{place_eq, has_place, places, IsPlace}
use Rattle.mig_mem.specs.Image.{Page, Image, IsImage, content_at, pages_of, image_of, zero_image, zero_page, with_page}
use Rattle.mig_mem.specs.Round.{round_of, last_at, all_pages, after, with_round, with_rounds, IsRound, RoundsGoOnto}
use Rattle.mig_mem.proofs.Members.{All-flat_map}
use Rattle.mig_mem.proofs.TablePlaces.{has_place-places}
use Rattle.mig_mem.proofs.PlaceOrder.{place_eq-true, place_eq-from, place_eq-flip}
use Rattle.mig_mem.proofs.Images.{image_agree, image_from, image_is, with_page-image_of, content_at-image_of, content_size}

-- ---- the last page at a place

-- of two lists one after another, the second counts
pub last_at-append : (p : Place) (xs ys : List Page) → last_at p (xs ++ ys) ≡ option_or (last_at p ys) (last_at p xs)
unfolding last_at
last_at-append p xs ys =
    ap (λ (l : List Page). find (λ (x : Page). place_eq x.place p) l) (reverse-append xs ys)
    ∙ find-append (λ (x : Page). place_eq x.place p) (reverse ys) (reverse xs)

-- no page was written, so none is the last at a place
pub last_at-nil : (p : Place) → last_at p [] ≡ None
unfolding last_at
last_at-nil p = refl

-- the last of one page is it, if it lies there
pub last_at-one : (p : Place) (x : Page) → last_at p (x ∷ []) ≡ (if place_eq x.place p then Some x else None)
unfolding last_at
last_at-one p x = refl

-- the last page at a place is the newest, if it lies there, or else the one before
pub last_at-push : (p : Place) (xs : List Page) (x : Page) → last_at p (xs ++ x ∷ []) ≡ (if place_eq x.place p then Some x else last_at p xs)
last_at-push p xs x = last_at-append p xs (x ∷ []) ∙ ap (λ (o : Option Page). option_or o (last_at p xs)) (last_at-one p x)
    ∙ elim (cases_Bool (place_eq x.place p)) [ inl t ↦ rw t refl | inr f ↦ rw f refl ]

-- the last page at a place is the last of the later ones, or else the first page if it lies there
pub last_at-cons : (p : Place) (x : Page) (xs : List Page) → last_at p (x ∷ xs) ≡ option_or (last_at p xs) (if place_eq x.place p then Some x else None)
last_at-cons p x xs = last_at-append p (x ∷ []) xs ∙ ap (λ (o : Option Page). option_or (last_at p xs) o) (last_at-one p x)

-- ---- the memory after rounds

-- a later page's content, or else what there was before
pub map_or-or : (a b : Option Page) (d : List ℕ)
    → option_map_or (λ (x : Page). x.content) (option_or a b) d ≡ option_map_or (λ (x : Page). x.content) a (option_map_or (λ (x : Page). x.content) b d)
map_or-or None b d = refl
map_or-or (Some x) b d = refl

-- the pages of one round more follow those of the rounds before
pub all_pages-push : (rounds : List (List Page)) (r : List Page) → all_pages (rounds ++ r ∷ []) ≡ all_pages rounds ++ r
all_pages-push rounds r = flat_map-append (λ (r : List Page). r) rounds (r ∷ []) ∙ ap (λ (l : List Page). all_pages rounds ++ l) (append-nil r)

-- after no round
pub after-nil : (table : RamTable) → after table [] ≡ zero_image table
after-nil table = image_agree table (λ p. option_map_or (λ (x : Page). x.content) (last_at p []) (zero_page table.page_size)) (λ _. zero_page table.page_size)
    (λ p _. ap (λ (o : Option Page). option_map_or (λ (x : Page). x.content) o (zero_page table.page_size)) (last_at-nil p))

-- AFTER ONE ROUND MORE each place has what the round gives it, or else what it had.
pub after-push : (table : RamTable) (rounds : List (List Page)) (r : List Page)
    → after table (rounds ++ r ∷ []) ≡ image_of table (λ p. option_map_or (λ (x : Page). x.content) (last_at p r) (content_at (after table rounds) p))
after-push table rounds r =
    let was : Place → List ℕ = λ p. option_map_or (λ (x : Page). x.content) (last_at p (all_pages rounds)) (zero_page table.page_size) in
    image_agree table (λ p. option_map_or (λ (x : Page). x.content) (last_at p (all_pages (rounds ++ r ∷ []))) (zero_page table.page_size))
    (λ p. option_map_or (λ (x : Page). x.content) (last_at p r) (content_at (after table rounds) p))
    (λ p is.
    ap (λ (l : List Page). option_map_or (λ (x : Page). x.content) (last_at p l) (zero_page table.page_size)) (all_pages-push rounds r)
    ∙ ap (λ (o : Option Page). option_map_or (λ (x : Page). x.content) o (zero_page table.page_size)) (last_at-append p (all_pages rounds) r)
    ∙ map_or-or (last_at p r) (last_at p (all_pages rounds)) (zero_page table.page_size)
    ∙ ap (λ (c : List ℕ). option_map_or (λ (x : Page). x.content) (last_at p r) c) (sym (content_at-image_of table was p is)))

-- THE STEP OF A LOOP that writes a round's pages in place: one page more
pub with_page-more : (table : RamTable) (before : Place → List ℕ) (xs : List Page) (x : Page)
    → with_page (image_of table (λ p. option_map_or (λ (y : Page). y.content) (last_at p xs) (before p))) x.place x.content
    ≡ image_of table (λ p. option_map_or (λ (y : Page). y.content) (last_at p (xs ++ x ∷ [])) (before p))
with_page-more table before xs x =
    with_page-image_of table (λ p. option_map_or (λ (y : Page). y.content) (last_at p xs) (before p))
    (λ p. option_map_or (λ (y : Page). y.content) (last_at p (xs ++ x ∷ [])) (before p))
    x.place x.content
    (let t : place_eq x.place x.place ≡ true = place_eq-from x.place x.place refl in
    sym (ap (λ (o : Option Page). option_map_or (λ (y : Page). y.content) o (before x.place))
    (last_at-push x.place xs x ∙ cond-true (place_eq x.place x.place) (Some x) (last_at x.place xs) t)))
    (λ q _ other.
    let n : place_eq x.place q ≡ false = elim (cases_Bool (place_eq x.place q)) [ inl t ↦ absurd (other (sym (place_eq-true x.place q t))) | inr f ↦ f ] in
    sym (ap (λ (o : Option Page). option_map_or (λ (y : Page). y.content) o (before q))
    (last_at-push q xs x ∙ cond-false (place_eq x.place q) (Some x) (last_at q xs) n)))

-- ---- the round of an image

at_place : Image → Place → Page
at_place m q = record { place = q; content = content_at m q }

-- a round has no page at a place that isn't among its places
pub last_at-round_none : (m : Image) (p : Place) (ps : List Place) → has_place ps p ≡ false → last_at p (round_of m ps) ≡ None
unfolding pages_of at_place
last_at-round_none m p [] h = last_at-nil p
last_at-round_none m p (q ∷ qs) h =
    let both = or_parts (place_eq q p) (has_place qs p) h in
    last_at-cons p (at_place m q) (round_of m qs)
    ∙ ap (λ (o : Option Page). option_or o (if place_eq q p then Some (at_place m q) else None)) (last_at-round_none m p qs both.1)
    ∙ cond-false (place_eq q p) (Some (at_place m q)) None both.0

-- a place that the round has gets its content in the image
pub last_at-round : (m : Image) (p : Place) (ps : List Place) → has_place ps p ≡ true
    → last_at p (round_of m ps) ≡ Some (record { place = p; content = content_at m p })
unfolding pages_of at_place
last_at-round m p [] h = absurd cc
last_at-round m p (q ∷ qs) h =
    last_at-cons p (at_place m q) (round_of m qs) ∙ elim (cases_Bool (has_place qs p)) [
      | inl t ↦ ap (λ (o : Option Page). option_or o (if place_eq q p then Some (at_place m q) else None)) (last_at-round m p qs t)
      | inr n ↦
          let here : place_eq q p ≡ true = elim (or_cases (place_eq q p) (has_place qs p) h) [ inl t ↦ t | inr t ↦ absurd cc ] in
          ap (λ (o : Option Page). option_or o (if place_eq q p then Some (at_place m q) else None)) (last_at-round_none m p qs n)
          ∙ cond-true (place_eq q p) (Some (at_place m q)) None here
          ∙ ap (λ (r : Place). Some (at_place m r)) (place_eq-true q p here)
    ]

-- THE ROUND OF A MEMORY and some of its table's places is one of that table
pub image_round : (m : Image) (dirty : List Place) → IsImage m → All (IsPlace m.table) dirty → IsRound m.table (round_of m dirty)
unfolding pages_of at_place
image_round m dirty is within = record {
  has_places = All-map (λ x. IsPlace m.table x.place) (at_place m) dirty within;
  has_sizes = All-map (λ x. length x.content ≡ m.table.page_size) (at_place m) dirty
      (All-weaker (IsPlace m.table) (λ p. length (content_at m p) ≡ m.table.page_size) (λ p at. content_size m p is at) dirty within);
}

-- ---- what rounds leave

-- a round of one page
pub after-one : (table : RamTable) (rounds : List (List Page)) (x : Page)
    → after table (rounds ++ (x ∷ []) ∷ []) ≡ with_page (after table rounds) x.place x.content
after-one table rounds x =
    after-push table rounds (x ∷ []) ∙ image_agree table
    (λ p. option_map_or (λ (y : Page). y.content) (last_at p (x ∷ [])) (content_at (after table rounds) p))
    (λ p. if place_eq p x.place then x.content else content_at (after table rounds) p)
    (λ p _.
    ap (λ (o : Option Page). option_map_or (λ (y : Page). y.content) o (content_at (after table rounds) p)) (last_at-one p x)
    ∙ elim (cases_Bool (place_eq x.place p)) [
      | inl t ↦ let back : place_eq p x.place ≡ true = place_eq-from p x.place (sym (place_eq-true x.place p t)) in rw (t, back) refl
      | inr n ↦ let back : place_eq p x.place ≡ false = place_eq-flip x.place p n in rw (n, back) refl
    ])

-- the last page at a place is one of the pages
last_of : (P : Page → Type 0) (p : Place) (xs : List Page) (c : List ℕ) → All P xs → (Q : List ℕ → Type 0) → ((x : Page) → P x → Q x.content) → Q c
    → Q (option_map_or (λ (y : Page). y.content) (last_at p xs) c)
last_of P p [] c all Q h rest = rw last_at-nil rest
last_of P p (x ∷ xs) c all Q h rest =
    let one : Option Page = if place_eq x.place p then Some x else None in
    rw (last_at-cons p x xs, map_or-or (last_at p xs) one c)
    (last_of P p xs (option_map_or (λ (y : Page). y.content) one c) (All-tail P x xs all) Q h
    (elim (cases_Bool (place_eq x.place p)) [ inl t ↦ rw t (h x (All-head P x xs all)) | inr n ↦ rw n rest ]))

-- the memory after rounds is a memory
pub after_image : (table : RamTable) (rounds : List (List Page)) → All (IsRound table) rounds → IsImage (after table rounds)
after_image table rounds all =
    image_from table (λ p. option_map_or (λ (x : Page). x.content) (last_at p (all_pages rounds)) (zero_page table.page_size)) (λ p is.
    last_of (λ x. length x.content ≡ table.page_size) p (all_pages rounds) (zero_page table.page_size)
    (All-flat_map (λ x. length x.content ≡ table.page_size) (λ (r : List Page). r) rounds
    (All-weaker (IsRound table) (λ r. All (λ x. length x.content ≡ table.page_size) r) (λ r is_round. is_round.has_sizes) rounds all))
    (λ l. length l ≡ table.page_size) (λ x h. h) (length-replicate table.page_size 0))

-- ---- rounds that are put into a memory

-- the content that pages give a place, or else another
abbrev given : Place → List Page → List ℕ → List ℕ
given p xs c = option_map_or (λ (x : Page). x.content) (last_at p xs) c

-- no round
pub onto-nil : (m : Image) → IsImage m → with_rounds m [] ≡ m
onto-nil m is =
    image_agree m.table (λ p. given p [] (content_at m p)) (content_at m)
    (λ p _. ap (λ (o : Option Page). option_map_or (λ (x : Page). x.content) o (content_at m p)) (last_at-nil p))
    ∙ sym (image_is m is)

-- one round more
pub onto-push : (m : Image) (rounds : List (List Page)) (r : List Page) → with_rounds m (rounds ++ r ∷ []) ≡ with_round (with_rounds m rounds) r
onto-push m rounds r =
    let was : Place → List ℕ = λ p. given p (all_pages rounds) (content_at m p) in
    image_agree m.table (λ p. given p (all_pages (rounds ++ r ∷ [])) (content_at m p)) (λ p. given p r (content_at (with_rounds m rounds) p)) (λ p is.
    ap (λ (l : List Page). given p l (content_at m p)) (all_pages-push rounds r)
    ∙ ap (λ (o : Option Page). option_map_or (λ (x : Page). x.content) o (content_at m p)) (last_at-append p (all_pages rounds) r)
    ∙ map_or-or (last_at p r) (last_at p (all_pages rounds)) (content_at m p)
    ∙ ap (λ (c : List ℕ). given p r c) (sym (content_at-image_of m.table was p is)))

-- rounds onto zeros
pub onto-zeros : (table : RamTable) (rounds : List (List Page)) → after table rounds ≡ with_rounds (zero_image table) rounds
onto-zeros table rounds =
    image_agree table (λ p. given p (all_pages rounds) (zero_page table.page_size)) (λ p. given p (all_pages rounds) (content_at (zero_image table) p)) (λ p is.
    ap (λ (c : List ℕ). given p (all_pages rounds) c) (sym (content_at-image_of table (λ _. zero_page table.page_size) p is)))

-- what they leave is a memory
onto_image : (m : Image) (rounds : List (List Page)) → IsImage m → All (IsRound m.table) rounds → IsImage (with_rounds m rounds)
onto_image m rounds image all =
    image_from m.table (λ p. given p (all_pages rounds) (content_at m p)) (λ p is.
    last_of (λ x. length x.content ≡ m.table.page_size) p (all_pages rounds) (content_at m p)
    (All-flat_map (λ x. length x.content ≡ m.table.page_size) (λ (r : List Page). r) rounds
    (All-weaker (IsRound m.table) (λ r. All (λ x. length x.content ≡ m.table.page_size) r) (λ r is_round. is_round.has_sizes) rounds all))
    (λ l. length l ≡ m.table.page_size) (λ x h. h) (content_size m p image is))

-- rounds applied one after another make memories, from any memory on
pub rounds_onto : RoundsGoOnto
rounds_onto = record { none = onto-nil; one_more = onto-push; makes_memory = onto_image }

-- a round of all pages
pub all_pages_sent : (m before : Image) → IsImage m → m.table ≡ before.table → with_round before (round_of m (places m.table)) ≡ m
all_pages_sent m before image same =
    ap (λ (t : RamTable). image_of t (λ p. given p (round_of m (places m.table)) (content_at before p))) (sym same)
    ∙ image_agree m.table (λ p. given p (round_of m (places m.table)) (content_at before p)) (content_at m) (λ p is.
    ap (λ (o : Option Page). option_map_or (λ (x : Page). x.content) o (content_at before p))
    (last_at-round m p (places m.table) (has_place-places m.table p is)))
    ∙ sym (image_is m image)
