-- Batches, one after another.
use Rattle.std.proofs.Common.{ℕ, ◌≡◌, ◌<◌, ◌≤◌, List, [], ◌∷◌, ◌++◌, length, map, get_or, refl, sym, ap}
use Rattle.std.proofs.Common.{◌∙◌, inl, inr, arith, subst, Option, Some, None, true, false}
use Rattle.std.specs.Prelude.{◌≢◌, ◌⊎◌, IsTrue, nat_lt}
use Rattle.std.specs.List.{filter, flat_map, All, AllPairs}
use Rattle.std.proofs.lemmas.Bool.{ltb-true, lt-ltb}
use Rattle.std.proofs.lemmas.List.{append-nil, append_assoc, length-append, length-map}
use Rattle.std.proofs.lemmas.List.Elements.{All-head, All-tail, All-nil, All-cons, All-push, All-weaker}
use Rattle.std.proofs.lemmas.List.Quantifiers.{all_pairs_push}
use Rattle.std.proofs.lemmas.List.Concat.{flat_map-cons}
use Rattle.std.proofs.lemmas.Grind.{flat_map-append}
use Rattle.mig_mem.specs.declared.place.Place.{Place}
use Rattle.mig_mem.specs.RamTable.{RamTable}
use Rattle.std.proofs.lemmas.Option.{same_Some}
use Rattle.mig_mem.specs.Place.{place_at, place_lt, has_place, IsPlace, IsAscending}
use Rattle.mig_mem.specs.PlaceSet.{PlaceSet, IsPlaceSet}
use Rattle.mig_mem.proofs.Members.{InOrder, order_from_AllPairs, AllPairs-from_order, All-any}
use Rattle.mig_mem.proofs.PlaceOrder.{place_lt-true, place_lt-false}
use Rattle.mig_mem.proofs.Lists.{pairs_tail}
use Rattle.mig_packet.specs.PageSize.{page_limit}
use Rattle.mig_send.specs.Batches.{BatchOfPages, batch_places, IsBatch, IsCut, IsFirstBatch, IsInSet, places_from, HasOneCut}
use Rattle.mig_send.proofs.PlacesFrom.{behind, is_from, from_place, none_before}

abbrev HasSize : ℕ → BatchOfPages → Type 0
HasSize limit b = (0 < length b.pages) × (length b.pages ≤ limit)

abbrev IsFullBefore : ℕ → BatchOfPages → BatchOfPages → Type 0
IsFullBefore limit a b = a.block ≡ b.block → length a.pages ≡ limit

-- a batch that these places may follow
abbrev MayFollow : ℕ → List Place → BatchOfPages → Type 0
MayFollow limit places a = All (λ p. p.block ≡ a.block → length a.pages ≡ limit) places

-- ---- one batch more

-- The batches so far are the cut of the first places, and what is left may follow them.
pub record IsCutUpTo (limit : ℕ) (places left : List Place) (batches : List BatchOfPages) : Type 0 where
  pub has_all : places ≡ flat_map batch_places batches ++ left
  pub has_sizes : All (HasSize limit) batches
  pub are_full : AllPairs (IsFullBefore limit) batches
  pub may_follow : All (MayFollow limit left) batches

-- before the first batch all places are left
pub cut_none : (limit : ℕ) (places : List Place) → IsCutUpTo limit places places []
cut_none limit places = record {
  has_all = refl;
  has_sizes = All-nil (HasSize limit);
  are_full = λ i j d before within. absurd (omega arith);
  may_follow = All-nil (MayFollow limit places);
}

-- if no place is left, the batches so far are the batches of the places
pub cut_all : (limit : ℕ) (places : List Place) (batches : List BatchOfPages) → IsCutUpTo limit places [] batches → IsCut limit places batches
cut_all limit places batches cut =
    record { has_all = sym (cut.has_all ∙ append-nil (flat_map batch_places batches)); has_sizes = cut.has_sizes; are_full = cut.are_full }

-- what holds of two lists, one after another, holds of the second
pub All-behind : (P : Place → Type 0) (xs ys : List Place) → All P (xs ++ ys) → All P ys
All-behind P [] ys all = all
All-behind P (x ∷ xs) ys all = All-behind P xs ys (All-tail P x (xs ++ ys) all)

-- a batch that may be followed by the places of another of its block is full
full_before : (limit : ℕ) (a : BatchOfPages) (block : ℕ) (pages : List ℕ) (behind : List Place) → 0 < length pages
    → MayFollow limit (map (place_at block) pages ++ behind) a → a.block ≡ block → length a.pages ≡ limit
full_before limit a block [] behind some follow same = absurd (omega arith)
full_before limit a block (page ∷ pages) behind some follow same =
    All-head (λ p. p.block ≡ a.block → length a.pages ≡ limit) (place_at block page) (map (place_at block) pages ++ behind) follow (sym same)

-- with the first batch of the places left added, the places after it are left
pub cut_more : (limit : ℕ) (places left behind : List Place) (batches : List BatchOfPages) (b : BatchOfPages) → IsCutUpTo limit places left batches
    → IsFirstBatch limit left b behind
    → IsCutUpTo limit places behind (batches ++ b ∷ [])
cut_more limit places left behind batches b cut first =
    let split : left ≡ batch_places b ++ behind = first.has_all in
    let follow : (k : ℕ) (d : BatchOfPages) → k < length batches → MayFollow limit (batch_places b ++ behind) (get_or batches k d) = λ k d lt.
    subst (λ (l : List Place). MayFollow limit l (get_or batches k d)) split (cut.may_follow k d lt) in
    record {
      has_all = cut.has_all ∙ ap (λ (l : List Place). flat_map batch_places batches ++ l) split
          ∙ sym (append_assoc (flat_map batch_places batches) (batch_places b) behind)
          ∙ ap (λ (l : List Place). l ++ behind)
          (sym (flat_map-append batch_places batches (b ∷ [])
          ∙ ap (λ (l : List Place). flat_map batch_places batches ++ l) (flat_map-cons batch_places b [] ∙ append-nil (batch_places b))));
      has_sizes = All-push (HasSize limit) batches b cut.has_sizes (first.has_some, first.has_few);
      are_full = all_pairs_push (IsFullBefore limit) batches b cut.are_full
          (λ k d lt. full_before limit (get_or batches k d) b.block b.pages behind first.has_some (follow k d lt));
      may_follow = All-push (MayFollow limit behind) batches b
          (λ k d lt. All-behind (λ p. p.block ≡ (get_or batches k d).block → length (get_or batches k d).pages ≡ limit) (batch_places b) behind (follow k d lt))
          first.is_full;
    }

-- ---- the end of a batch

-- where it may end: at a place of another block, or full
abbrev pub MayEnd : ℕ → Place → List ℕ → Option Place → Type 0
MayEnd limit first pages next = (p : Place) → next ≡ Some p → (p.block ≢ first.block) ⊎ (length pages ≡ limit)

other_block : (marked : List Place) (first p : Place) (pages : List ℕ) → IsAscending marked → has_place marked p ≡ true → p.block ≢ first.block
    → places_from marked (Some first) ≡ map (place_at first.block) pages ++ places_from marked (Some p) → first.block < p.block
other_block marked first p pages order has other all =
    let late : All (λ q. place_lt q first ≡ false) (filter (is_from p) marked) =
    All-behind (λ q. place_lt q first ≡ false) (map (place_at first.block) pages) (filter (is_from p) marked)
    (subst (λ (l : List Place). All (λ q. place_lt q first ≡ false) l) all (none_before first marked)) in
    let from : filter (is_from p) marked ≡ p ∷ filter (is_from (behind p)) marked = from_place p marked (order_from_AllPairs place_lt marked order) has in
    let here : place_lt p first ≡ false =
    All-head (λ q. place_lt q first ≡ false) p (filter (is_from (behind p)) marked)
    (subst (λ (l : List Place). All (λ q. place_lt q first ≡ false) l) from late) in
    elim (place_lt-false p first here) [ inl lt ↦ lt | inr at ↦ absurd (other at.0) ]

some_pages : (limit : ℕ) (first p : Place) (pages : List ℕ) → 0 < limit → (length pages ≡ 0 → Some p ≡ Some first)
    → (p.block ≢ first.block) ⊎ (length pages ≡ limit) → 0 < length pages
some_pages limit first p [] some begins (inl other) =
    let same : p ≡ first = same_Some p first (begins refl) in absurd (other (ap (λ (q : Place). q.block) same))
some_pages limit first p [] some begins (inr full) = absurd (let none : 0 ≡ limit = full in omega arith)
some_pages limit first p (page ∷ pages) some begins ends = omega arith

full_where_it_ends : (limit : ℕ) (marked : List Place) (first p : Place) (pages : List ℕ) → IsAscending marked → has_place marked p ≡ true
    → places_from marked (Some first) ≡ map (place_at first.block) pages ++ places_from marked (Some p) → (p.block ≢ first.block) ⊎ (length pages ≡ limit)
    → All (λ q. q.block ≡ first.block → length pages ≡ limit) (places_from marked (Some p))
full_where_it_ends limit marked first p pages order has all (inr full) =
    All-any (λ q. q.block ≡ first.block → length pages ≡ limit) (λ q e. full) (places_from marked (Some p))
full_where_it_ends limit marked first p pages order has all (inl other) =
    let lt : first.block < p.block = other_block marked first p pages order has other all in
    All-weaker (λ q. place_lt q p ≡ false) (λ q. q.block ≡ first.block → length pages ≡ limit)
    (λ q ge e. absurd (elim (place_lt-false q p ge) [ inl less ↦ omega arith | inr at ↦ let same : q.block ≡ p.block = at.0 in omega arith ]))
    (filter (is_from p) marked) (none_before p marked)

-- at most `limit` pages of one block, from a place on, are its first batch, if they are full or
-- the next place is of another block
pub batch_ends : (limit : ℕ) (marked : List Place) (first : Place) (pages : List ℕ) (next : Option Place) → IsAscending marked → 0 < limit
    → places_from marked (Some first) ≡ map (place_at first.block) pages ++ places_from marked next → IsInSet marked next → length pages ≤ limit
    → (length pages ≡ 0 → next ≡ Some first) → MayEnd limit first pages next
    → IsFirstBatch limit (places_from marked (Some first)) (record { block = first.block; pages = pages }) (places_from marked next)
batch_ends limit marked first [] None order some all has few begins ends = absurd (let wrong : None ≡ Some first = begins refl in cc)
batch_ends limit marked first (page ∷ pages) None order some all has few begins ends =
    record { has_all = all; has_some = omega arith; has_few = few; is_full = All-nil (λ q. q.block ≡ first.block → length (page ∷ pages) ≡ limit) }
batch_ends limit marked first pages (Some p) order some all has few begins ends = record {
  has_all = all;
  has_some = some_pages limit first p pages some begins (ends p refl);
  has_few = few;
  is_full = full_where_it_ends limit marked first p pages order has all (ends p refl);
}

-- ---- one cut alone

-- Where two runs of pages of a block begin the same places, they are the same, or one is shorter
-- and the places after it go on with the block.
data Meets (block : ℕ) (xs ys : List ℕ) (left right : List Place) : Type 0 where
  same : xs ≡ ys → left ≡ right → Meets block xs ys left right
  shorter : length xs < length ys → (page : ℕ) (more : List Place) → left ≡ place_at block page ∷ more → Meets block xs ys left right
  longer : length ys < length xs → (page : ℕ) (more : List Place) → right ≡ place_at block page ∷ more → Meets block xs ys left right

meets_more : (block x y : ℕ) (xs ys : List ℕ) (left right : List Place) → x ≡ y → Meets block xs ys left right → Meets block (x ∷ xs) (y ∷ ys) left right
meets_more block x y xs ys left right e (same f g) = same (ap (λ (l : List ℕ). x ∷ l) f ∙ ap (λ (n : ℕ). n ∷ ys) e) g
meets_more block x y xs ys left right e (shorter lt page more f) = shorter (omega arith) page more f
meets_more block x y xs ys left right e (longer lt page more f) = longer (omega arith) page more f

meets : (block : ℕ) (xs ys : List ℕ) (left right : List Place) → map (place_at block) xs ++ left ≡ map (place_at block) ys ++ right
    → Meets block xs ys left right
meets block [] [] left right e = same refl e
meets block [] (y ∷ ys) left right e = shorter (omega arith) y (map (place_at block) ys ++ right) e
meets block (x ∷ xs) [] left right e = longer (omega arith) x (map (place_at block) xs ++ left) (sym e)
meets block (x ∷ xs) (y ∷ ys) left right e =
    let head : place_at block x ≡ place_at block y = cc in
    let tail : map (place_at block) xs ++ left ≡ map (place_at block) ys ++ right = cc in
    meets_more block x y xs ys left right (ap (λ (p : Place). p.page) head) (meets block xs ys left right tail)

-- the block of a run of pages is that of the first place
first_block : (block : ℕ) (pages : List ℕ) (behind : List Place) (p : Place) (more : List Place) → 0 < length pages
    → map (place_at block) pages ++ behind ≡ p ∷ more → block ≡ p.block
first_block block [] behind p more some e = absurd (omega arith)
first_block block (page ∷ pages) behind p more some e = let head : place_at block page ≡ p = cc in ap (λ (q : Place). q.block) head

same_block : (a b : ℕ) (xs ys : List ℕ) (left right : List Place) → 0 < length xs → 0 < length ys → map (place_at a) xs ++ left ≡ map (place_at b) ys ++ right
    → a ≡ b
same_block a b xs [] left right some others e = absurd (omega arith)
same_block a b xs (y ∷ ys) left right some others e = first_block a xs left (place_at b y) (map (place_at b) ys ++ right) some e

-- a batch after which the places go on with its block is full
full_here : (limit : ℕ) (a : BatchOfPages) (more : List BatchOfPages) (page : ℕ) (places : List Place) → All (HasSize limit) more
    → AllPairs (IsFullBefore limit) (a ∷ more)
    → flat_map batch_places more ≡ place_at a.block page ∷ places → length a.pages ≡ limit
full_here limit a [] page places sizes full e = absurd cc
full_here limit a (b ∷ more) page places sizes full e =
    let size : HasSize limit b = All-head (HasSize limit) b more sizes in
    let block : b.block ≡ a.block = first_block b.block b.pages (flat_map batch_places more) (place_at a.block page) places size.0 e in
    full 0 1 a (omega arith) (omega arith) (sym block)

not_empty : (limit : ℕ) (b : BatchOfPages) (places : List Place) → HasSize limit b → [] ≡ batch_places b ++ places → ⊥
not_empty limit b places size e =
    let none : 0 ≡ length (batch_places b ++ places) = ap (λ (l : List Place). length l) e in
    let some : 0 < length b.pages = size.0 in
    omega (arith, none, some, length-append (batch_places b) places, length-map b.pages (place_at b.block))

same_batch : (a b : BatchOfPages) → a.block ≡ b.block → a.pages ≡ b.pages → a ≡ b
same_batch a b e f = ap (λ (n : ℕ). record { block = n; pages = a.pages }) e ∙ ap (λ (l : List ℕ). record { block = b.block; pages = l }) f

one_cut : (limit : ℕ) (some others : List BatchOfPages) → All (HasSize limit) some → All (HasSize limit) others → AllPairs (IsFullBefore limit) some
    → AllPairs (IsFullBefore limit) others
    → flat_map batch_places some ≡ flat_map batch_places others → some ≡ others
one_cut limit [] [] s t f g e = refl
one_cut limit [] (b ∷ ys) s t f g e = absurd (not_empty limit b (flat_map batch_places ys) (All-head (HasSize limit) b ys t) e)
one_cut limit (a ∷ xs) [] s t f g e = absurd (not_empty limit a (flat_map batch_places xs) (All-head (HasSize limit) a xs s) (sym e))
one_cut limit (a ∷ xs) (b ∷ ys) s t f g e =
    let size : HasSize limit a = All-head (HasSize limit) a xs s in
    let other : HasSize limit b = All-head (HasSize limit) b ys t in
    let few : length a.pages ≤ limit = size.1 in
    let few_others : length b.pages ≤ limit = other.1 in
    let block : a.block ≡ b.block = same_block a.block b.block a.pages b.pages (flat_map batch_places xs) (flat_map batch_places ys) size.0 other.0 e in
    let places : map (place_at a.block) a.pages ++ flat_map batch_places xs ≡ map (place_at a.block) b.pages ++ flat_map batch_places ys =
    e ∙ ap (λ (n : ℕ). map (place_at n) b.pages ++ flat_map batch_places ys) (sym block) in
    elim (meets a.block a.pages b.pages (flat_map batch_places xs) (flat_map batch_places ys) places) [
      | same pages behind ↦
          ap (λ (x : BatchOfPages). x ∷ xs) (same_batch a b block pages)
          ∙ ap (λ (l : List BatchOfPages). b ∷ l) (one_cut limit xs ys (All-tail (HasSize limit) a xs s) (All-tail (HasSize limit) b ys t)
          (pairs_tail (IsFullBefore limit) a xs f) (pairs_tail (IsFullBefore limit) b ys g) behind)
      | shorter lt page more is ↦ absurd
          (let full : length a.pages ≡ limit = full_here limit a xs page more (All-tail (HasSize limit) a xs s) f is in omega arith)
      | longer lt page more is ↦ absurd (let full : length b.pages ≡ limit =
          full_here limit b ys page more (All-tail (HasSize limit) b ys t) g (is ∙ ap (λ (n : ℕ). place_at n page ∷ more) block) in omega arith)
    ]

-- two lists of batches of the same places, with the same limit, are equal
pub has_one_cut : HasOneCut
has_one_cut limit places some others cut other =
    one_cut limit some others cut.has_sizes other.has_sizes cut.are_full other.are_full (cut.has_all ∙ sym other.has_all)

-- ---- what a batch of a cut keeps

All-front : (P : Place → Type 0) (xs ys : List Place) → All P (xs ++ ys) → All P xs
All-front P [] ys all = All-nil P
All-front P (x ∷ xs) ys all = All-cons P x xs (All-head P x (xs ++ ys) all) (All-front P xs ys (All-tail P x (xs ++ ys) all))

order_front : (xs ys : List Place) → InOrder place_lt (xs ++ ys) → InOrder place_lt xs × InOrder place_lt ys
order_front [] ys order = (tt, order)
order_front (x ∷ xs) ys order = let parts = order_front xs ys order.1 in ((All-front (λ y. IsTrue (place_lt x y)) xs ys order.0, parts.0), parts.1)

pages_after : (block page : ℕ) (pages : List ℕ) → All (λ q. IsTrue (place_lt (place_at block page) q)) (map (place_at block) pages)
    → All (λ n. IsTrue (nat_lt page n)) pages
pages_after block page [] all = All-nil (λ n. IsTrue (nat_lt page n))
pages_after block page (n ∷ pages) all =
    let P : Place → Type 0 = λ q. IsTrue (place_lt (place_at block page) q) in
    let here : place_lt (place_at block page) (place_at block n) ≡ true = All-head P (place_at block n) (map (place_at block) pages) all in
    All-cons (λ m. IsTrue (nat_lt page m)) n pages
    (lt-ltb page n (elim (place_lt-true (place_at block page) (place_at block n) here) [
      | inl a ↦ absurd (let wrong : block < block = a in omega arith)
      | inr a ↦ a.1
    ]))
    (pages_after block page pages (All-tail P (place_at block n) (map (place_at block) pages) all))

pages_order : (block : ℕ) (pages : List ℕ) → InOrder place_lt (map (place_at block) pages) → InOrder nat_lt pages
pages_order block [] order = tt
pages_order block (n ∷ pages) order = (pages_after block n pages order.0, pages_order block pages order.1)

pages_ascend : (block : ℕ) (pages : List ℕ) → InOrder place_lt (map (place_at block) pages) → AllPairs (λ a b. a < b) pages
pages_ascend block pages order =
    let pairs = AllPairs-from_order nat_lt pages (pages_order block pages order) in
    λ i j d before within. ltb-true (get_or pages i d) (get_or pages j d) (pairs i j d before within)

each_fits : (table : RamTable) (limit : ℕ) (batches : List BatchOfPages) → limit ≤ page_limit table.page_size → All (HasSize limit) batches
    → All (IsPlace table) (flat_map batch_places batches) → InOrder place_lt (flat_map batch_places batches) → All (IsBatch table) batches
each_fits table limit [] le sizes within order = All-nil (IsBatch table)
each_fits table limit (b ∷ bs) le sizes within order =
    let size : HasSize limit b = All-head (HasSize limit) b bs sizes in
    let few : length b.pages ≤ limit = size.1 in
    let orders = order_front (batch_places b) (flat_map batch_places bs) order in
    All-cons (IsBatch table) b bs
    (record {
      has_places = All-front (IsPlace table) (batch_places b) (flat_map batch_places bs) within;
      has_some = size.0;
      has_few = omega arith;
      is_ascending = pages_ascend b.block b.pages orders.0;
    })
    (each_fits table limit bs le (All-tail (HasSize limit) b bs sizes) (All-behind (IsPlace table) (batch_places b) (flat_map batch_places bs) within) orders.1)

-- the batches of a set can be packed
pub batches_fit : (s : PlaceSet) (limit : ℕ) (batches : List BatchOfPages) → IsPlaceSet s → limit ≤ page_limit s.table.page_size → IsCut limit s.marked batches
    → All (IsBatch s.table) batches
batches_fit s limit batches is le cut =
    each_fits s.table limit batches le cut.has_sizes
    (subst (λ (l : List Place). All (IsPlace s.table) l) (sym cut.has_all) is.is_within)
    (subst (λ (l : List Place). InOrder place_lt l) (sym cut.has_all) (order_from_AllPairs place_lt s.marked is.is_ascending))
