-- Pages that are read straight to their places: what a memory has after them.
use Rattle.std.proofs.Common.{ℕ, zero, suc, ◌≡◌, ◌≢◌, ◌+◌, ◌-◌, ◌<◌, ◌≤◌, ◌||◌, Bool, true, false, cond, List, [], ◌∷◌, ◌++◌, length, map, get_or, set, take}
use Rattle.std.proofs.Common.{drop, Option, Some, None, refl, sym, ap, subst, ◌∙◌, inl, inr, arith}
use Rattle.std.specs.Borrow.{MutBor}
use Rattle.std.specs.List.{All, range_with_len}
use Rattle.std.specs.Option.{option_map_or}
use Rattle.std.proofs.lemmas.List.{length-take-le, length-drop}
use Rattle.std.proofs.lemmas.Bool.{cases_Bool, cases_lt, cases_order, cond-true, cond-false}
use Rattle.std.proofs.lemmas.List.Elements.{All-nil, All-cons, All-head, All-tail, All-append}
use Rattle.std.proofs.lemmas.List.FromFn.{length-map-range_with_len, get_or-map-range_with_len}
use Rattle.mig_mem.specs.declared.place.Place.{Place}
use Rattle.mig_mem.specs.RamTable.{RamTable}
use Rattle.mig_mem.specs.Place.{IsPlace, place_eq, has_place}
use Rattle.mig_mem.specs.Image.{Image, Page, IsImage, content_at, with_page, zero_page}
use Rattle.mig_mem.specs.Round.{with_round, last_at}
use Rattle.mig_mem.specs.Parts.{ChangesPart}
use Rattle.mig_mem.specs.Lent.{FitTable, lent_image, mut_lent_bytes}
use Rattle.mig_mem.proofs.PlaceOrder.{place_eq-true, place_eq-from}
use Rattle.mig_mem.proofs.Images.{image_agree, image_is, content_at-image_of}
use Rattle.mig_mem.proofs.Rounds.{last_at-nil, last_at-cons, map_or-or}
use Rattle.mig_mem.proofs.Lents.{loan_written}
use Rattle.mig_packet.specs.Packet.{normal_count, zero_count, offset_at, fields_of}
use Rattle.mig_assemble.specs.Judging.{page_in}
use Rattle.mig_assemble.specs.PacketPages.{LiesIn, zero_pages}
use Rattle.mig_assemble.proofs.PacketParts.{zero_page_at, zero_by_number}
use Rattle.mig_uses.specs.Straight.{page_place, WritesWithin, HasZeros, contents_in}

-- ---- a page of a block

-- `size` bytes from `a` on, all of which are in a list, are `size` bytes long
pub part_length : (a size : ℕ) (xs : List ℕ) → a + size ≤ length xs → length (take ((a + size) - a) (drop a xs)) ≡ size
part_length a size xs room = length-take-le ((a + size) - a) (drop a xs) (omega (arith, length-drop a xs, room)) ∙ omega arith

-- The slices have the page, and still fit.
pub block_written : (table : RamTable) (loans : List (MutBor (List ℕ))) (p : Place) (old new : MutBor (List ℕ)) (size : ℕ) (content : List ℕ)
    → FitTable table (mut_lent_bytes loans) → IsPlace table p → size ≡ table.page_size → old ≡ get_or loans p.block old
    → ChangesPart size old.now new.now p.page content
    → FitTable table (mut_lent_bytes (set loans p.block new))
    × (with_page (lent_image table (mut_lent_bytes loans)) p content ≡ lent_image table (mut_lent_bytes (set loans p.block new)))
block_written table loans p old new size content fit is same there changes =
    loan_written (λ (b : MutBor (List ℕ)). b.now) table loans p old new content fit is
    (subst (λ (b : MutBor (List ℕ)). ChangesPart table.page_size b.now new.now p.page content) there
    (subst (λ (n : ℕ). ChangesPart n old.now new.now p.page content) same changes))

-- ---- a page of a memory

-- after a page is written into a memory its place has the page's content
pub page_here : (m : Image) (p : Place) (content : List ℕ) → IsPlace m.table p → content_at (with_page m p content) p ≡ content
page_here m p content is =
    content_at-image_of m.table (λ q. cond (place_eq q p) content (content_at m q)) p is
    ∙ cond-true (place_eq p p) content (content_at m p) (place_eq-from p p refl)

-- after a page is written into a memory every other place has what it had
pub page_elsewhere : (m : Image) (p q : Place) (content : List ℕ) → IsPlace m.table q → p ≢ q → content_at (with_page m p content) q ≡ content_at m q
page_elsewhere m p q content is other =
    content_at-image_of m.table (λ r. cond (place_eq r p) content (content_at m r)) q is
    ∙ cond-false (place_eq q p) content (content_at m q) (elim (cases_Bool (place_eq q p)) [ inl t ↦ absurd (other (sym (place_eq-true q p t))) | inr f ↦ f ])

-- ---- the pages of a packet

-- a memory as it was has been written at no place outside a packet's
pub writes_none : (b : ℕ) (head : List ℕ) (m : Image) → WritesWithin b head m m
writes_none b head m = record { same_table = refl; elsewhere = λ p is other. refl }

-- two writes one after another, each at a packet's places, are one at these places
pub writes_both : (b : ℕ) (head : List ℕ) (one two three : Image) → WritesWithin b head one two → WritesWithin b head two three → WritesWithin b head one three
writes_both b head one two three first second = record {
  same_table = second.same_table ∙ first.same_table;
  elsewhere = λ p is other.
      second.elsewhere p (subst (λ (t : RamTable). IsPlace t p) (sym first.same_table) is)
      (λ i lt. subst (λ (t : RamTable). page_place t b head i ≢ p) (sym first.same_table) (other i lt))
      ∙ first.elsewhere p is other;
}

-- one more page is written
pub writes_more : (b : ℕ) (head : List ℕ) (first old new : Image) (i : ℕ) (p : Place) (content : List ℕ)
    → i < normal_count head + zero_count head → p ≡ page_place first.table b head i
    → WritesWithin b head first old → new ≡ with_page old p content → WritesWithin b head first new
writes_more b head first old new i p content lt at writes is = record {
  same_table = ap (λ (m : Image). m.table) is ∙ writes.same_table;
  elsewhere = λ q there other.
      ap (λ (m : Image). content_at m q) is
      ∙ page_elsewhere old p q content (subst (λ (t : RamTable). IsPlace t q) (sym writes.same_table) there) (λ e. other i lt (sym at ∙ e))
      ∙ writes.elsewhere q there other;
}

-- a page more is cleared
pub zeros_more : (b : ℕ) (head : List ℕ) (old new : Image) (k : ℕ) (p : Place) (content : List ℕ) → LiesIn old.table b head → k < zero_count head
    → p ≡ page_place old.table b head (normal_count head + k) → content ≡ zero_page old.table.page_size
    → new ≡ with_page old p content → HasZeros b head k old → HasZeros b head (k + 1) new
zeros_more b head old new k p content lies lt at zeros is has = λ i less.
    let n : ℕ = normal_count head in
    let q : Place = page_place old.table b head (n + i) in
    let there : IsPlace old.table q = lies (n + i) (omega (arith, lt, less)) in
    subst (λ (m : Image). content_at m (page_place m.table b head (n + i)) ≡ zero_page m.table.page_size) (sym is)
    (elim (cases_Bool (place_eq p q)) [
      | inl t ↦
          ap (λ (r : Place). content_at (with_page old p content) r) (sym (place_eq-true p q t))
          ∙ page_here old p content (subst (λ (r : Place). IsPlace old.table r) (sym (place_eq-true p q t)) there) ∙ zeros
      | inr f ↦
          page_elsewhere old p q content there (λ e. let t : place_eq p q ≡ true = place_eq-from p q e in absurd cc)
          ∙ (elim (cases_lt i k) [
            | inl before ↦ has i before
            | inr last ↦
                let same : i ≡ k = omega (arith, less, last) in
                let t : place_eq p q ≡ true = place_eq-from p q (at ∙ ap (λ (j : ℕ). page_place old.table b head (n + j)) (sym same)) in
                absurd cc
          ])
    ])

-- ---- a round of pages that are there already

own_content : (m : Image) (p : Place) (pages : List Page) → All (λ x. x.content ≡ content_at m x.place) pages
    → option_map_or (λ (x : Page). x.content) (last_at p pages) (content_at m p) ≡ content_at m p
own_content m p [] all = ap (λ (o : Option Page). option_map_or (λ (x : Page). x.content) o (content_at m p)) (last_at-nil p)
own_content m p (x ∷ xs) all =
    let here : Option Page = cond (place_eq x.place p) (Some x) None in
    let one : option_map_or (λ (y : Page). y.content) here (content_at m p) ≡ content_at m p =
    elim (cases_Bool (place_eq x.place p)) [
      | inl t ↦ rw t (All-head (λ (y : Page). y.content ≡ content_at m y.place) x xs all ∙ ap (content_at m) (place_eq-true x.place p t))
      | inr f ↦ rw f refl
    ] in
    ap (λ (o : Option Page). option_map_or (λ (y : Page). y.content) o (content_at m p)) (last_at-cons p x xs)
    ∙ map_or-or (last_at p xs) here (content_at m p)
    ∙ ap (λ (d : List ℕ). option_map_or (λ (y : Page). y.content) (last_at p xs) d) one
    ∙ own_content m p xs (All-tail (λ (y : Page). y.content ≡ content_at m y.place) x xs all)

-- such a round changes nothing
pub unchanged_round : (m : Image) (pages : List Page) → IsImage m → All (λ x. x.content ≡ content_at m x.place) pages → with_round m pages ≡ m
unchanged_round m pages is all =
    image_agree m.table (λ p. option_map_or (λ (x : Page). x.content) (last_at p pages) (content_at m p)) (content_at m)
    (λ p there. own_content m p pages all) ∙ sym (image_is m is)

-- if `P` holds of `f i` for each of `n` numbers from `a` on, it holds of all of the list
pub all_ranged : (P : Page → Type 0) (f : ℕ → Page) (n a : ℕ) → ((i : ℕ) → a ≤ i → i < a + n → P (f i)) → All P (map f (range_with_len a n))
all_ranged P f zero a each = All-nil P
all_ranged P f (suc n) a each = All-cons P (f a) (map f (range_with_len (a + 1) n)) (each a (omega arith) (omega arith))
    (all_ranged P f n (a + 1) (λ i low high. each i (omega (arith, low)) (omega (arith, high))))

-- A packet's round changes nothing, if its normal pages have what the memory has there, and the
-- memory has its pages of zeros.
pub packet_there : (m : Image) (b : ℕ) (head : List ℕ) (contents : List (List ℕ)) → IsImage m
    → contents ≡ contents_in m b head (normal_count head) → HasZeros b head (zero_count head) m
    → with_round m (zero_pages m.table b (fields_of m.table.page_size head) ++ map
    (λ i. page_in m.table b (offset_at head i) (get_or contents i [])) (range_with_len 0 (length contents))) ≡ m
packet_there m b head contents is same zeros =
    let n : ℕ = normal_count head in
    let z : ℕ = zero_count head in
    let P : Page → Type 0 = λ x. x.content ≡ content_at m x.place in
    let at : ℕ → List ℕ = λ i. content_at m (page_place m.table b head i) in
    let normal : ℕ → Page = λ i. page_in m.table b (offset_at head i) (get_or contents i []) in
    let many : length contents ≡ n = ap (λ (l : List (List ℕ)). length l) same ∙ length-map-range_with_len at 0 n in
    unchanged_round m (zero_pages m.table b (fields_of m.table.page_size head) ++ map normal (range_with_len 0 (length contents))) is
    (All-append P (zero_pages m.table b (fields_of m.table.page_size head)) (map normal (range_with_len 0 (length contents)))
    (subst (λ (l : List Page). All P l) (zero_by_number m.table b m.table.page_size head)
    (all_ranged P (zero_page_at m.table b head) z n (λ i low high.
    let e : n + (i - n) ≡ i = omega (arith, low) in
    sym (subst (λ (j : ℕ). content_at m (page_place m.table b head j) ≡ zero_page m.table.page_size) e (zeros (i - n) (omega (arith, low, high)))))))
    (all_ranged P normal (length contents) 0 (λ i low high.
    ap (λ (l : List (List ℕ)). get_or l i []) same ∙ get_or-map-range_with_len at 0 n i i [] (omega (arith, high, many)) (omega arith))))

-- ---- places by their number

-- the place of one of `n` numbers from `a` on is among the places of these numbers
pub has_ranged : (f : ℕ → Place) (n a k : ℕ) → a ≤ k → k < a + n → has_place (map f (range_with_len a n)) (f k) ≡ true
has_ranged f zero a k low high = absurd (omega (arith, low, high))
has_ranged f (suc n) a k low high = elim (cases_order a k) [
  | inl same ↦ or_left (place_eq (f a) (f k)) (has_place (map f (range_with_len (a + 1) n)) (f k)) (place_eq-from (f a) (f k) (ap f same))
  | inr apart ↦
      or_right (place_eq (f a) (f k)) (has_place (map f (range_with_len (a + 1) n)) (f k))
      (has_ranged f n (a + 1) k (elim apart [ inl lt ↦ omega (arith, lt) | inr gt ↦ omega (arith, low, gt) ]) (omega (arith, high)))
]
  where
    or_right : (a b : Bool) → b ≡ true → (a || b) ≡ true
    or_right true b t = refl
    or_right false b t = t

    or_left : (a b : Bool) → a ≡ true → (a || b) ≡ true
    or_left true b t = refl
    or_left false b t = absurd cc
