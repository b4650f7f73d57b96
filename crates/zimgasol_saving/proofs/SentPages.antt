-- The pages that are sent, and the memory after them.
use Rattle.std.proofs.Common.{ℕ, zero, suc, ◌≡◌, ◌+◌, ◌*◌, ◌-◌, ◌<◌, ◌≤◌, List, [], ◌∷◌, ◌++◌, length, map, take, drop, min}
use Rattle.std.proofs.Common.{refl, sym, ap, subst, ◌∙◌, inl, inr, Option, Some, None, Bool, true, false, not, cond, arith, append_assoc}
use Rattle.std.specs.Prelude.{bytes_eq, ◌⊎◌}
use Rattle.std.specs.List.{filter, flat_map, range_with_len, All}
use Rattle.std.specs.Option.{option_map_or}
use Rattle.std.proofs.lemmas.Bool.{cases_Bool, cases_lt, or_cases, or_left, or_right, or_from, both_ways, true≢false, false≢true, false_from_ne_true}
use Rattle.std.proofs.lemmas.List.{append-nil, map-append, length-drop, length-take-le, take-take, drop-take, drop-drop}
use Rattle.std.proofs.lemmas.List.Concat.{flat_map-append}
use Rattle.std.proofs.lemmas.List.Elements.{filter-append, All-filter, All-head, All-tail}
use Rattle.std.proofs.lemmas.Slice.Eq.{bytes_eq-Decides}
use Rattle.mig_mem.specs.declared.place.Place.{Place}
use Rattle.mig_mem.specs.RamTable.{RamTable, block}
use Rattle.mig_mem.specs.Place.{IsPlace, place_at, places, block_places, has_place, place_eq}
use Rattle.mig_mem.specs.Image.{Page, Image, content_at, pages_of, image_of}
use Rattle.mig_mem.specs.Round.{round_of, last_at, with_round}
use Rattle.mig_mem.specs.Parts.{part_at}
use Rattle.mig_mem.specs.Lent.{lent_at, bytes_of_block}
use Rattle.mig_mem.proofs.PageSizes.{page_before}
use Rattle.mig_mem.proofs.PlaceOrder.{place_eq-true}
use Rattle.mig_mem.proofs.Images.{image_agree, content_at-image_of}
use Rattle.mig_mem.proofs.Rounds.{last_at-round, last_at-round_none}
use Rattle.mig_mem.proofs.TablePlaces.{has_place-places}
use Rattle.mig_mem.proofs.Members.{map-map, map_agree, All-range}
use Rattle.zimgasol_files.specs.Differing.{HasPage, page_of, Piece, Differs, AreSent, page_sent}
use Rattle.zimgasol_saving.specs.Sent.{Source, source_of, is_sent, memory_of, sent_places, sent_pages, IsOlder}
use Rattle.zimgasol_saving.specs.Sent.{page_at, sent_from, sent_of, sent_before, piece_from, HasPages}

-- ---- ranges

range_more : (a n : ℕ) → range_with_len a (suc n) ≡ range_with_len a n ++ (a + n) ∷ []
range_more a zero = let e : a ≡ a + 0 = omega arith in ap (λ (k : ℕ). k ∷ []) e
range_more a (suc n) =
    let e : (a + 1) + n ≡ a + suc n = omega arith in
    ap (λ (l : List ℕ). a ∷ l) (range_more (a + 1) n ∙ ap (λ (k : ℕ). range_with_len (a + 1) n ++ k ∷ []) e)

range_split : (a m n : ℕ) → range_with_len a (m + n) ≡ range_with_len a m ++ range_with_len (a + m) n
range_split a m zero = let e : m + 0 ≡ m = omega arith in ap (λ (k : ℕ). range_with_len a k) e ∙ sym (append-nil (range_with_len a m))
range_split a m (suc n) =
    let e : m + suc n ≡ suc (m + n) = omega arith in
    let f : a + (m + n) ≡ (a + m) + n = omega arith in
    ap (λ (k : ℕ). range_with_len a k) e ∙ range_more a (m + n)
    ∙ ap (λ (l : List ℕ). l ++ (a + (m + n)) ∷ []) (range_split a m n)
    ∙ append_assoc (range_with_len a m) (range_with_len (a + m) n) ((a + (m + n)) ∷ [])
    ∙ ap (λ (l : List ℕ). range_with_len a m ++ l) (ap (λ (k : ℕ). range_with_len (a + m) n ++ k ∷ []) f ∙ sym (range_more (a + m) n))

-- ---- the pages that are sent, page after page

-- of no page
pub none_sent : (size b : ℕ) (s : Source) (first : ℕ) → sent_from size b s first 0 ≡ []
unfolding sent_from
none_sent size b s first = refl

-- of some pages, and of those after them
pub sent_more : (size b first m n : ℕ) (s : Source) → sent_from size b s first (m + n) ≡ sent_from size b s first m ++ sent_from size b s (first + m) n
unfolding sent_from
sent_more size b first m n s =
    ap (λ (l : List ℕ). map (page_at size b s) (filter (is_sent size s) l)) (range_split first m n)
    ∙ ap (λ (l : List ℕ). map (page_at size b s) l) (filter-append (is_sent size s) (range_with_len first m) (range_with_len (first + m) n))
    ∙ map-append (page_at size b s) (filter (is_sent size s) (range_with_len first m)) (filter (is_sent size s) (range_with_len (first + m) n))

-- of one page
one_sent : (size b page : ℕ) (s : Source) → is_sent size s page ≡ true → sent_from size b s page 1 ≡ page_at size b s page ∷ []
unfolding sent_from
one_sent size b page s t = ap (λ (x : Bool). map (page_at size b s) (cond x (page ∷ []) [])) t

one_kept : (size b page : ℕ) (s : Source) → is_sent size s page ≡ false → sent_from size b s page 1 ≡ []
unfolding sent_from
one_kept size b page s f = ap (λ (x : Bool). map (page_at size b s) (cond x (page ∷ []) [])) f

-- ---- the pages of a piece

-- a page of a piece is one of the whole
page_in_piece : (size first count r : ℕ) (xs : List ℕ) → r < count
    → page_of size (take (count * size) (drop (first * size) xs)) r ≡ part_at size xs (first + r)
page_in_piece size first count r xs low =
    let room : r * size + size ≤ count * size = page_before size count r low in
    let m : ℕ = count * size - r * size in
    let whole : count * size ≡ r * size + m = omega (arith, room) in
    let rest : List ℕ = drop (first * size) xs in
    let one : (r * size + size) - r * size ≡ size = omega arith in
    let from : first * size + r * size ≡ (first + r) * size = grind arith in
    ap (λ (w : ℕ). take w (drop (r * size) (take (count * size) rest))) one
    ∙ ap (λ (w : ℕ). take size (drop (r * size) (take w rest))) whole
    ∙ ap (λ (l : List ℕ). take size l) (drop-take (r * size) m rest)
    ∙ take-take size m (drop (r * size) rest) (omega (arith, room))
    ∙ ap (λ (l : List ℕ). take size l) (drop-drop (r * size) (first * size) xs)
    ∙ ap (λ (k : ℕ). take size (drop k xs)) from

-- a piece is complete
pub piece_len : (size first count : ℕ) (xs : List ℕ) → (first + count) * size ≤ length xs → length (take (count * size) (drop (first * size) xs)) ≡ count * size
piece_len size first count xs there =
    let e : (first + count) * size ≡ first * size + count * size = grind arith in
    length-take-le (count * size) (drop (first * size) xs) (omega (arith, e, there, length-drop (first * size) xs))

page_there : (size first count r : ℕ) (xs : List ℕ) → (first + count) * size ≤ length xs → r < count
    → HasPage size (take (count * size) (drop (first * size) xs)) r
page_there size first count r xs there low =
    subst (λ (n : ℕ). r * size + size ≤ n) (sym (piece_len size first count xs there)) (page_before size count r low)

page_past : (size first count r : ℕ) (xs : List ℕ) → 0 < size → (first + count) * size ≤ length xs → count ≤ r
    → HasPage size (take (count * size) (drop (first * size) xs)) r → ⊥
page_past size first count r xs some there past has =
    let next : count * size + size ≤ (r + 1) * size = page_before size (r + 1) count (omega (arith, past)) in
    let e : (r + 1) * size ≡ r * size + size = grind arith in
    absurd (omega (arith, some, has, next, e, piece_len size first count xs there))

abbrev src : List ℕ → Option (List ℕ) → Source
src bytes before = record { bytes = bytes; before = before }

-- a page of a piece differs exactly if it is sent
differs_is_sent : (size first count r : ℕ) (bytes : List ℕ) (before : Option (List ℕ)) → r < count → HasPages size (src bytes before) (first + count)
    → Differs (piece_from size (src bytes before) first count) r → is_sent size (src bytes before) (first + r) ≡ true
differs_is_sent size first count r bytes None low has d = refl
differs_is_sent size first count r bytes (Some old) low has d =
    elim (cases_Bool (bytes_eq (part_at size old (first + r)) (part_at size bytes (first + r)))) [
      | inl t ↦ absurd (d.is_new (record {
        was_there = page_there size first count r old has.were_there low;
        same = page_in_piece size first count r old low
            ∙ (bytes_eq-Decides (part_at size old (first + r)) (part_at size bytes (first + r))).0 t
            ∙ sym (page_in_piece size first count r bytes low);
      }))
      | inr f ↦ ap not f
    ]

sent_differs : (size first count r : ℕ) (bytes : List ℕ) (before : Option (List ℕ)) → r < count → HasPages size (src bytes before) (first + count)
    → is_sent size (src bytes before) (first + r) ≡ true → Differs (piece_from size (src bytes before) first count) r
sent_differs size first count r bytes None low has t = record { is_there = page_there size first count r bytes has.are_there low; is_new = tt }
sent_differs size first count r bytes (Some old) low has t = record {
  is_there = page_there size first count r bytes has.are_there low;
  is_new = λ same.
      let e : part_at size old (first + r) ≡ part_at size bytes (first + r) =
      sym (page_in_piece size first count r old low) ∙ same.same ∙ page_in_piece size first count r bytes low in
      false≢true (sym (ap not ((bytes_eq-Decides (part_at size old (first + r)) (part_at size bytes (first + r))).1 e)) ∙ t);
}

-- one page more, which is sent or isn't
sent_next : (size b first count n : ℕ) (s : Source) (sent rest : List Page) → n < count → HasPages size s (first + count)
    → rest ≡ sent_from size b s first n
    → ((Differs (piece_from size s first count) n × (sent ≡ rest ++ page_sent b first (piece_from size s first count) n ∷ []))
    ⊎ ((Differs (piece_from size s first count) n → ⊥) × (sent ≡ rest)))
    → sent ≡ sent_from size b s first (n + 1)
sent_next size b first count n s sent rest low has so step = elim step [
  | inl p ↦
      let t : is_sent size s (first + n) ≡ true = differs_is_sent size first count n s.bytes s.before low has p.0 in
      p.1 ∙ ap (λ (l : List Page). l ++ page_sent b first (piece_from size s first count) n ∷ []) so
      ∙ ap (λ (c : List ℕ). sent_from size b s first n ++ page_with b (first + n) c ∷ []) (page_in_piece size first count n s.bytes low)
      ∙ ap (λ (l : List Page). sent_from size b s first n ++ l) (sym (one_sent size b (first + n) s t))
      ∙ sym (sent_more size b first n 1 s)
  | inr p ↦
      let f : is_sent size s (first + n) ≡ false =
      false_from_ne_true (is_sent size s (first + n)) (λ t. p.0 (sent_differs size first count n s.bytes s.before low has t)) in
      p.1 ∙ so ∙ sym (append-nil (sent_from size b s first n))
      ∙ ap (λ (l : List Page). sent_from size b s first n ++ l) (sym (one_kept size b (first + n) s f))
      ∙ sym (sent_more size b first n 1 s)
]
  where
    page_with : ℕ → ℕ → List ℕ → Page
    page_with b page c = record { place = place_at b page; content = c }

-- WHAT IS SENT OF A PIECE are those of its pages that are sent of the source
pub piece_is_sent : (size b first count n : ℕ) (s : Source) (sent : List Page) → 0 < size → HasPages size s (first + count)
    → AreSent b first (piece_from size s first count) n sent → sent ≡ sent_from size b s first (min n count)
unfolding AreSent
piece_is_sent size b first count zero s sent some has are =
    let e : 0 ≡ min 0 count = omega arith in
    are ∙ sym (none_sent size b s first) ∙ ap (λ (k : ℕ). sent_from size b s first k) e
piece_is_sent size b first count (suc n) s sent some has (rest, are, step) =
    let so : rest ≡ sent_from size b s first (min n count) = piece_is_sent size b first count n s rest some has are in
    elim (cases_lt n count) [
      | inl low ↦
          let here : min n count ≡ n = omega (arith, low) in
          let next : n + 1 ≡ min (suc n) count = omega (arith, low) in
          sent_next size b first count n s sent rest low has (so ∙ ap (λ (k : ℕ). sent_from size b s first k) here) step
          ∙ ap (λ (k : ℕ). sent_from size b s first k) next
      | inr past ↦
          let same : min n count ≡ min (suc n) count = omega (arith, past) in
          elim step [
            | inl p ↦ absurd (page_past size first count n s.bytes some has.are_there past p.0.is_there)
            | inr p ↦ p.1 ∙ so ∙ ap (λ (k : ℕ). sent_from size b s first k) same
          ]
    ]

-- where no page differs, none is sent
pub none_differs : (block first : ℕ) (piece : Piece) (n : ℕ) → ((page : ℕ) → Differs piece page → ⊥) → AreSent block first piece n []
unfolding AreSent
none_differs block first piece zero same = refl
none_differs block first piece (suc n) same = ([], none_differs block first piece n same, inr (same n, refl))

-- ---- all blocks

-- the bytes of a block are those of its source
pub bytes_at : (sources : List Source) (b : ℕ) → bytes_of_block (map (λ s. s.bytes) sources) b ≡ (source_of sources b).bytes
bytes_at [] b = refl
bytes_at (s ∷ sources) zero = refl
bytes_at (s ∷ sources) (suc b) = bytes_at sources b

filter-map : {X Y : Type 0} (f : Y → Bool) (g : X → Y) (xs : List X) → filter f (map g xs) ≡ map g (filter (λ x. f (g x)) xs)
filter-map f g [] = refl
filter-map {X} {Y} f g (x ∷ xs) = elim (cases_Bool (f (g x))) [
  | inl t ↦ rw t (ap (λ (l : List Y). g x ∷ l) (filter-map f g xs))
  | inr n ↦ rw n (filter-map f g xs)
]

-- whether the page at a place is sent
abbrev sends : RamTable → List Source → Place → Bool
sends table sources p = is_sent table.page_size (source_of sources p.block) p.page

abbrev page_in : Image → Place → Page
page_in m p = record { place = p; content = content_at m p }

-- the content of a place is that of its source
content_there : (table : RamTable) (sources : List Source) (p : Place) → IsPlace table p
    → part_at table.page_size (source_of sources p.block).bytes p.page ≡ content_at (memory_of table sources) p
content_there table sources p is =
    ap (λ (l : List ℕ). part_at table.page_size l p.page) (sym (bytes_at sources p.block))
    ∙ sym (content_at-image_of table (lent_at table.page_size (map (λ s. s.bytes) sources)) p is)

-- of a block
block_sent : (table : RamTable) (sources : List Source) (b : ℕ) → b < length table.blocks
    → sent_of table sources b ≡ round_of (memory_of table sources) (filter (sends table sources) (block_places table.blocks b))
unfolding sent_from pages_of
block_sent table sources b lt =
    let size : ℕ = table.page_size in
    let s : Source = source_of sources b in
    let m : Image = memory_of table sources in
    let all : List ℕ = range_with_len 0 (block table.blocks b).pages in
    let agree : All (λ q. page_at size b s q ≡ page_in m (place_at b q)) (filter (is_sent size s) all) =
    All-filter (is_sent size s) (λ q. page_at size b s q ≡ page_in m (place_at b q)) all
    (All-range (λ q. page_at size b s q ≡ page_in m (place_at b q)) 0 (block table.blocks b).pages (λ q lo hi.
    ap (page_of_content b q) (content_there table sources (place_at b q) (record { has_block = lt; has_page = omega (arith, hi) })))) in
    map_agree (page_at size b s) (λ q. page_in m (place_at b q)) (filter (is_sent size s) all) agree
    ∙ sym (map-map (page_in m) (place_at b) (filter (is_sent size s) all))
    ∙ ap (λ (l : List Place). map (page_in m) l) (sym (filter-map (sends table sources) (place_at b) all))
  where
    page_of_content : ℕ → ℕ → List ℕ → Page
    page_of_content b q c = record { place = place_at b q; content = c }

-- of some blocks
blocks_sent : (table : RamTable) (sources : List Source) (bs : List ℕ) → All (λ b. b < length table.blocks) bs
    → flat_map (sent_of table sources) bs ≡ round_of (memory_of table sources) (filter (sends table sources) (flat_map (block_places table.blocks) bs))
unfolding pages_of
blocks_sent table sources [] all = refl
blocks_sent table sources (b ∷ bs) all =
    let f : Place → Bool = sends table sources in
    let m : Image = memory_of table sources in
    let here : List Place = block_places table.blocks b in
    let rest : List Place = flat_map (block_places table.blocks) bs in
    ap (λ (l : List Page). l ++ flat_map (sent_of table sources) bs) (block_sent table sources b (All-head (λ k. k < length table.blocks) b bs all))
    ∙ ap (λ (l : List Page). round_of m (filter f here) ++ l) (blocks_sent table sources bs (All-tail (λ k. k < length table.blocks) b bs all))
    ∙ sym (map-append (page_in m) (filter f here) (filter f rest))
    ∙ ap (λ (l : List Place). round_of m l) (sym (filter-append f here rest))

-- ALL PAGES THAT ARE SENT of all blocks
pub all_sent : (table : RamTable) (sources : List Source) → sent_before table sources (length table.blocks) ≡ sent_pages table sources
unfolding sent_before places
all_sent table sources =
    blocks_sent table sources (range_with_len 0 (length table.blocks))
    (All-range (λ b. b < length table.blocks) 0 (length table.blocks) (λ k lo hi. omega (arith, hi)))

-- of one block more
pub block_more : (table : RamTable) (sources : List Source) (n : ℕ)
    → sent_before table sources (n + 1) ≡ sent_before table sources n ++ sent_of table sources n
unfolding sent_before
block_more table sources n =
    let e : 0 + n ≡ n = omega arith in
    ap (λ (l : List ℕ). flat_map (sent_of table sources) l) (range_split 0 n 1)
    ∙ flat_map-append (sent_of table sources) (range_with_len 0 n) ((0 + n) ∷ [])
    ∙ ap (λ (k : ℕ). flat_map (sent_of table sources) (range_with_len 0 n) ++ (sent_of table sources k ++ [])) e
    ∙ ap (λ (l : List Page). flat_map (sent_of table sources) (range_with_len 0 n) ++ l) (append-nil (sent_of table sources n))

pub no_block : (table : RamTable) (sources : List Source) → sent_before table sources 0 ≡ []
unfolding sent_before
no_block table sources = refl

-- ---- the memory after them

has_from : (f : Place → Bool) (p : Place) (ps : List Place) → f p ≡ true → has_place ps p ≡ true → has_place (filter f ps) p ≡ true
has_from f p [] t h = h
has_from f p (q ∷ qs) t h = elim (cases_Bool (f q)) [
  | inl has ↦ rw has (elim (or_cases (place_eq q p) (has_place qs p) h) [
    | inl at ↦ or_left (place_eq q p) (has_place (filter f qs) p) at
    | inr in_rest ↦ or_right (place_eq q p) (has_place (filter f qs) p) (has_from f p qs t in_rest)
  ])
  | inr n ↦ rw n (elim (or_cases (place_eq q p) (has_place qs p) h) [
    | inl at ↦ absurd (both_ways (f p) (sym (ap f (place_eq-true q p at)) ∙ n) t)
    | inr in_rest ↦ has_from f p qs t in_rest
  ])
]

has_not : (f : Place → Bool) (p : Place) (ps : List Place) → f p ≡ false → has_place (filter f ps) p ≡ false
has_not f p [] n = refl
has_not f p (q ∷ qs) n = elim (cases_Bool (f q)) [
  | inl has ↦ rw has (or_from (place_eq q p) (has_place (filter f qs) p)
      (false_from_ne_true (place_eq q p) (λ at. both_ways (f p) n (sym (ap f (place_eq-true q p at)) ∙ has)))
      (has_not f p qs n))
  | inr lacks ↦ rw lacks (has_not f p qs n)
]

-- a page that isn't sent is as it was
kept_same : (size page : ℕ) (bytes : List ℕ) (before : Option (List ℕ)) (c : List ℕ) → is_sent size (src bytes before) page ≡ false
    → ((old : List ℕ) → before ≡ Some old → c ≡ part_at size old page) → c ≡ part_at size bytes page
kept_same size page bytes None c f older = absurd (true≢false f)
kept_same size page bytes (Some old) c f older =
    older old refl ∙ elim (cases_Bool (bytes_eq (part_at size old page) (part_at size bytes page))) [
      | inl t ↦ (bytes_eq-Decides (part_at size old page) (part_at size bytes page)).0 t
      | inr n ↦ absurd (false≢true (sym f ∙ ap not n))
    ]

-- A MEMORY THAT HAS WHAT THE OLDER FILES HAVE is that of the files after the pages that are sent
pub sent_leaves : (table : RamTable) (sources : List Source) (m : Image) → m.table ≡ table → IsOlder table sources m
    → with_round m (sent_pages table sources) ≡ memory_of table sources
sent_leaves table sources m same older =
    let sent : List Page = sent_pages table sources in
    let now : Image = memory_of table sources in
    let f : Place → List ℕ = λ p. option_map_or (λ (x : Page). x.content) (last_at p sent) (content_at m p) in
    ap (λ (t : RamTable). image_of t f) same
    ∙ image_agree table f (lent_at table.page_size (map (λ s. s.bytes) sources)) (λ p is.
    let there : part_at table.page_size (source_of sources p.block).bytes p.page ≡ lent_at table.page_size (map (λ s. s.bytes) sources) p =
    ap (λ (l : List ℕ). part_at table.page_size l p.page) (sym (bytes_at sources p.block)) in
    elim (cases_Bool (sends table sources p)) [
      | inl t ↦
          ap (λ (o : Option Page). option_map_or (λ (x : Page). x.content) o (content_at m p))
          (last_at-round now p (sent_places table sources) (has_from (sends table sources) p (places table) t (has_place-places table p is)))
          ∙ content_at-image_of table (lent_at table.page_size (map (λ s. s.bytes) sources)) p is
      | inr n ↦
          ap (λ (o : Option Page). option_map_or (λ (x : Page). x.content) o (content_at m p))
          (last_at-round_none now p (sent_places table sources) (has_not (sends table sources) p (places table) n))
          ∙ kept_same table.page_size p.page (source_of sources p.block).bytes (source_of sources p.block).before (content_at m p) n
          (λ old at. older p old is at)
          ∙ there
    ])
