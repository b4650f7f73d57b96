-- The walk over the batches of a set of places.
use Rattle.std.proofs.Common.{ℕ, ◌≡◌, ◌≢◌, ◌<◌, ◌≤◌, ◌+◌, ◌==◌, List, [], ◌∷◌, ◌++◌, length, map, drop, get_or, refl, sym, ap, ◌∙◌, inl, inr, arith, zero, suc}
use Rattle.std.proofs.Common.{Option, Some, None, true, false, subst}
use Rattle.std.specs.Prelude.{nat_lt, ◌&&◌}
use Rattle.std.specs.List.{flat_map, All, AllPairs, find}
use Rattle.std.proofs.lemmas.Bool.{cases_eq, eq-eqb, ne_eqb, lt-ltb, le-ltb}
use Rattle.std.proofs.lemmas.List.{append-nil, append_assoc, length-append, length-drop}
use Rattle.std.proofs.lemmas.List.Elements.{All-head, All-tail, All-nil, All-cons, All-weaker}
use Rattle.std.proofs.lemmas.List.Concat.{flat_map-cons}
use Rattle.mig_mem.specs.declared.place.Place.{Place}
use Rattle.mig_mem.specs.Place.{place_at, IsAscending}
use Rattle.mig_mem.proofs.Members.{All-flat_map}
use Rattle.mig_send.specs.declared.finder.Walk.{Walk}
use Rattle.mig_send.specs.Work.{no_batch}
use Rattle.mig_send.specs.Batches.{BatchOfPages, batch_places, IsCut, IsFirstBatch, IsInSet, places_from}
use Rattle.mig_send.specs.Finding.{batch_of_one, cut_after, cut_of, IsAfterBatch, IsWalk}
use Rattle.mig_send.proofs.PlacesFrom.{is_from, walk_begins}
use Rattle.mig_send.proofs.Cutting.{IsCutUpTo, cut_none, cut_more, cut_all}

-- ---- the batches of some places, one by one

abbrev pages_in : ℕ → List ℕ → BatchOfPages
pages_in block pages = record { block = block; pages = pages }

-- a batch that was begun takes these pages
taken : (limit block : ℕ) (before pages : List ℕ) (behind : List Place) → length before + length pages ≤ limit
    → All (λ p. p.block ≡ block → length before + length pages ≡ limit) behind
    → cut_after limit (record { block = block; pages = before }) (map (place_at block) pages ++ behind) ≡ record {
      block = block;
      pages = before ++ pages;
    } ∷ cut_of limit behind
unfolding cut_after cut_of
taken limit block before [] [] few full = ap (λ (l : List ℕ). pages_in block l ∷ []) (sym (append-nil before))
taken limit block before [] (p ∷ ps) few full =
    let here : p.block ≡ block → length before + 0 ≡ limit = All-head (λ q. q.block ≡ block → length before + 0 ≡ limit) p ps full in
    let ends : (p.block == block && nat_lt (length before) limit) ≡ false = elim (cases_eq p.block block) [
      | inl e ↦
          let t : (p.block == block) ≡ true = eq-eqb p.block block e in
          let at : length before + 0 ≡ limit = here e in
          let f : nat_lt (length before) limit ≡ false = le-ltb (length before) limit (omega arith) in
          rw (t, f) refl
      | inr ne ↦ let f : (p.block == block) ≡ false = ne_eqb p.block block ne in rw f refl
    ] in
    rw ends (ap (λ (l : List ℕ). pages_in block l ∷ cut_after limit (batch_of_one p) ps) (sym (append-nil before)))
taken limit block before (page ∷ pages) behind few full =
    let t : (block == block) ≡ true = eq-eqb block block refl in
    let f : nat_lt (length before) limit ≡ true = lt-ltb (length before) limit (omega arith) in
    let one : length (before ++ page ∷ []) ≡ length before + 1 = length-append before (page ∷ []) in
    let more = taken limit block (before ++ page ∷ []) pages behind (omega arith)
    (All-weaker (λ p. p.block ≡ block → length before + suc (length pages) ≡ limit) (λ p. p.block ≡ block → length (before ++ page ∷ []) + length pages ≡ limit)
    (λ p is e. let at : length before + suc (length pages) ≡ limit = is e in omega arith) behind full) in
    rw (t, f) (more ∙ ap (λ (l : List ℕ). pages_in block l ∷ cut_of limit behind) (append_assoc before (page ∷ []) pages))

first_taken : (limit block : ℕ) (pages : List ℕ) (behind : List Place) → 0 < length pages → length pages ≤ limit
    → All (λ p. p.block ≡ block → length pages ≡ limit) behind
    → cut_of limit (map (place_at block) pages ++ behind) ≡ record { block = block; pages = pages } ∷ cut_of limit behind
unfolding cut_of
first_taken limit block [] behind some few full = absurd (omega arith)
first_taken limit block (page ∷ pages) behind some few full =
    taken limit block (page ∷ []) pages behind (omega arith)
    (All-weaker (λ p. p.block ≡ block → length (page ∷ pages) ≡ limit) (λ p. p.block ≡ block → 1 + length pages ≡ limit)
    (λ p is e. let at : suc (length pages) ≡ limit = is e in omega arith) behind full)

-- the first batch of some places, and the batches after it
pub first_cut : (limit : ℕ) (places : List Place) (batch : BatchOfPages) (behind : List Place) → IsFirstBatch limit places batch behind
    → cut_of limit places ≡ batch ∷ cut_of limit behind
first_cut limit places batch behind first =
    ap (cut_of limit) first.has_all ∙ first_taken limit batch.block batch.pages behind first.has_some first.has_few first.is_full

-- ---- all of them

abbrev HasSize : ℕ → BatchOfPages → Type 0
HasSize limit b = (0 < length b.pages) × (length b.pages ≤ limit)

abbrev IsFullBefore : ℕ → BatchOfPages → BatchOfPages → Type 0
IsFullBefore limit a b = a.block ≡ b.block → length a.pages ≡ limit

same_follow : (limit : ℕ) (a : BatchOfPages) (block : ℕ) (pages : List ℕ) → (a.block ≡ block → length a.pages ≡ limit)
    → All (λ p. p.block ≡ a.block → length a.pages ≡ limit) (map (place_at block) pages)
same_follow limit a block [] full = All-nil (λ p. p.block ≡ a.block → length a.pages ≡ limit)
same_follow limit a block (page ∷ pages) full =
    All-cons (λ p. p.block ≡ a.block → length a.pages ≡ limit) (place_at block page) (map (place_at block) pages)
    (λ e. full (sym e)) (same_follow limit a block pages full)

cut_is_of : (limit : ℕ) (batches : List BatchOfPages) → All (HasSize limit) batches → AllPairs (IsFullBefore limit) batches
    → cut_of limit (flat_map batch_places batches) ≡ batches
unfolding cut_of
cut_is_of limit [] sizes full = refl
cut_is_of limit (b ∷ bs) sizes full =
    let size : HasSize limit b = All-head (HasSize limit) b bs sizes in
    let follow : All (λ p. p.block ≡ b.block → length b.pages ≡ limit) (flat_map batch_places bs) =
    All-flat_map (λ p. p.block ≡ b.block → length b.pages ≡ limit) batch_places bs
    (λ k d lt. same_follow limit b (get_or bs k d).block (get_or bs k d).pages (full 0 (suc k) d (omega arith) (omega arith))) in
    first_cut limit (flat_map batch_places (b ∷ bs)) b (flat_map batch_places bs)
    (record { has_all = flat_map-cons batch_places b bs; has_some = size.0; has_few = size.1; is_full = follow })
    ∙ ap (λ (l : List BatchOfPages). b ∷ l)
    (cut_is_of limit bs (All-tail (HasSize limit) b bs sizes) (λ i j d before within. full (suc i) (suc j) d (omega arith) (omega arith)))

-- the batches are those of their cut
pub cut_is : (limit : ℕ) (places : List Place) (batches : List BatchOfPages) → IsCut limit places batches → cut_of limit places ≡ batches
cut_is limit places batches cut = ap (cut_of limit) (sym cut.has_all) ∙ cut_is_of limit batches cut.has_sizes cut.are_full

-- ---- the walk

next_of : {X : Type 0} (xs : List X) (n : ℕ) (x d : X) (rest : List X) → drop n xs ≡ x ∷ rest → (get_or xs n d ≡ x) × (drop (suc n) xs ≡ rest)
next_of [] zero x d rest e = absurd cc
next_of [] (suc n) x d rest e = absurd cc
next_of (y ∷ ys) zero x d rest e = (let head : y ≡ x = cc in head, let tail : ys ≡ rest = cc in tail)
next_of (y ∷ ys) (suc n) x d rest e = next_of ys n x d rest e

-- at its begin
pub walk_at_first : (places : List Place) (next : Option Place) → IsAscending places → next ≡ find (is_from (place_at 0 0)) places
    → (limit : ℕ) → IsWalk limit places (record { at = 0; next = next })
walk_at_first places next order found limit =
    let begins = walk_begins places next order found in
    record { has_rest = ap (cut_of limit) (sym begins.0); is_in_set = begins.1 }

-- before the end there is a place
pub walk_has_place : (limit : ℕ) (places : List Place) (walk : Walk) → IsWalk limit places walk → walk.at < length (cut_of limit places) → walk.next ≢ None
unfolding cut_of
walk_has_place limit places walk is lt none =
    let nothing : [] ≡ drop walk.at (cut_of limit places) = ap (λ (o : Option Place). cut_of limit (places_from places o)) (sym none) ∙ is.has_rest in
    let len = ap (λ (l : List BatchOfPages). length l) nothing in
    absurd (omega (arith, len, length-drop walk.at (cut_of limit places)))

-- a place that is there
pub has_some : (o : Option Place) → o ≢ None → ((p : Place) → o ≡ Some p → ⊥) → ⊥
has_some None some none = some refl
has_some (Some p) some none = none p refl

-- one batch on
pub walk_on : (limit : ℕ) (places : List Place) (walk : Walk) (first : Place) (batch : BatchOfPages) (next : Option Place)
    → IsWalk limit places walk → walk.next ≡ Some first
    → IsFirstBatch limit (places_from places (Some first)) batch (places_from places next) → IsInSet places next
    → (batch ≡ get_or (cut_of limit places) walk.at no_batch) × IsWalk limit places (record { at = walk.at + 1; next = next })
walk_on limit places walk first batch next is at begins in_set =
    let all : List BatchOfPages = cut_of limit places in
    let here : drop walk.at all ≡ batch ∷ cut_of limit (places_from places next) =
    sym is.has_rest ∙ ap (λ (o : Option Place). cut_of limit (places_from places o)) at
    ∙ first_cut limit (places_from places (Some first)) batch (places_from places next) begins in
    let parts = next_of all walk.at batch no_batch (cut_of limit (places_from places next)) here in
    let one : walk.at + 1 ≡ suc walk.at = omega arith in (
      sym parts.0,
      record { has_rest = sym (ap (λ (n : ℕ). drop n all) one ∙ parts.1); is_in_set = in_set },
    )

-- ---- the count of all batches

-- These batches were counted, and those of the places from there on are left.
pub record IsCounting (limit : ℕ) (places : List Place) (next : Option Place) (count : ℕ) : Type 0 where
  pub counted : List BatchOfPages
  pub is_count : count ≡ length counted
  pub is_cut : IsCutUpTo limit places (places_from places next) counted
  pub has_rest : cut_of limit places ≡ counted ++ cut_of limit (places_from places next)
  pub is_in_set : IsInSet places next

-- a walk at the first of some ascending places has counted no batch
pub none_counted : (limit : ℕ) (places : List Place) (next : Option Place) → IsAscending places
    → next ≡ find (is_from (place_at 0 0)) places → IsCounting limit places next 0
none_counted limit places next order found =
    let begins = walk_begins places next order found in
    record {
      counted = [];
      is_count = refl;
      is_cut = subst (λ (l : List Place). IsCutUpTo limit places l []) begins.0 (cut_none limit places);
      has_rest = ap (cut_of limit) begins.0;
      is_in_set = begins.1;
    }

-- a walk that goes on to the first place after a batch has counted one batch more
pub one_counted : (limit : ℕ) (places : List Place) (count : ℕ) (first : Place) (next : Option Place) → IsCounting limit places (Some first) count
    → IsAfterBatch limit places first next → IsCounting limit places next (count + 1)
one_counted limit places count first next is after =
    let batch : BatchOfPages = after.batch in
    let rest : List BatchOfPages = cut_of limit (places_from places next) in
    record {
      counted = is.counted ++ batch ∷ [];
      is_count = ap (λ (n : ℕ). n + 1) is.is_count ∙ sym (length-append is.counted (batch ∷ []));
      is_cut = cut_more limit places (places_from places (Some first)) (places_from places next) is.counted batch is.is_cut after.is_first;
      has_rest = is.has_rest ∙ ap (λ (l : List BatchOfPages). is.counted ++ l)
          (first_cut limit (places_from places (Some first)) batch (places_from places next) after.is_first)
          ∙ sym (append_assoc is.counted (batch ∷ []) rest);
      is_in_set = after.is_in_set;
    }

-- a walk after all places has counted all of their batches, and `cut_of` gives these batches
pub all_counted : (limit : ℕ) (places : List Place) (count : ℕ) → IsCounting limit places None count
    → (count ≡ length (cut_of limit places)) × IsCut limit places (cut_of limit places)
unfolding cut_of
all_counted limit places count is =
    let same : is.counted ≡ cut_of limit places = sym (is.has_rest ∙ append-nil is.counted) in (
      is.is_count ∙ ap (λ (l : List BatchOfPages). length l) same,
      subst (λ (l : List BatchOfPages). IsCut limit places l) same (cut_all limit places is.counted is.is_cut),
    )
