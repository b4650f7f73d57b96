-- A step over the places of a batch, by the number of places that are in the set.
use Rattle.std.proofs.Common.{ℕ, ◌≡◌, ◌≢◌, ◌<◌, ◌≤◌, ◌+◌, ◌-◌, List, [], ◌∷◌, ◌++◌, length, map, refl, sym, ap, ◌∙◌, inl, inr, arith, zero, suc, Option, Some}
use Rattle.std.proofs.Common.{Bool, true, false, not, subst}
use Rattle.std.specs.List.{filter, find, All, range_with_len}
use Rattle.std.proofs.lemmas.Bool.{cases_Bool, cases_lt}
use Rattle.std.proofs.lemmas.List.Elements.{All-head, All-nil, All-cons, All-weaker}
use Rattle.std.proofs.lemmas.List.Sums.{length-filter}
use Rattle.mig_mem.specs.declared.place.Place.{Place}
use Rattle.mig_mem.specs.RamTable.{block}
use Rattle.mig_mem.specs.Place.{place_at, place_eq, place_lt, has_place, IsPlace}
use Rattle.mig_mem.specs.PlaceSet.{PlaceSet, IsPlaceSet}
use Rattle.mig_mem.specs.Skipping.{IsPastPlaces, places_between}
use Rattle.mig_mem.proofs.Members.{InOrder, order_from_AllPairs, filter_agree_on}
use Rattle.mig_mem.proofs.PlaceOrder.{place_lt-true, place_lt-false, place_lt-from, place_ge-from, place_eq-from, same_place}
use Rattle.mig_mem.proofs.Walks.{All-has}
use Rattle.mig_send.specs.Batches.{places_from}
use Rattle.mig_send.specs.Finding.{IsAfterBatch}
use Rattle.mig_send.proofs.PlacesFrom.{behind, is_from, from_place, none_before, goes_on}
use Rattle.mig_send.proofs.Cutting.{MayEnd, batch_ends}

-- ---- a run of a block's pages

none_is : (p : Place) (ps : List Place) → has_place ps p ≡ false → All (λ q. place_eq q p ≡ false) ps
none_is p [] none = All-nil (λ q. place_eq q p ≡ false)
none_is p (q ∷ qs) none = elim (cases_Bool (place_eq q p)) [
  | inl t ↦ absurd (let wrong : true ≡ false = rw t at none in cc)
  | inr f ↦ All-cons (λ r. place_eq r p ≡ false) q qs f (none_is p qs (rw f at none))
]

-- a place that isn't the one from which on is looked
other_from : (p q : Place) → place_eq q p ≡ false → is_from p q ≡ is_from (behind p) q
other_from p q other = ap not (elim (cases_Bool (place_lt q p)) [
  | inl t ↦ t ∙ sym (place_lt-from q (behind p) (elim (place_lt-true q p t) [
    | inl a ↦ inl a
    | inr a ↦ let l : q.page < p.page = a.1 in inr (a.0, omega arith)
  ]))
  | inr f ↦ f ∙ sym (place_ge-from q (behind p) (elim (place_lt-false q p f) [
    | inl a ↦ inl a
    | inr a ↦
        let ne : q.page ≢ p.page = λ e. absurd (let t : place_eq q p ≡ true = place_eq-from q p (same_place q p a.0 e) in cc) in
        let le : p.page ≤ q.page = a.1 in
        inr (a.0, omega arith)
  ]))
])

-- from a place on that isn't in the list
from_no_place : (p : Place) (ps : List Place) → has_place ps p ≡ false → filter (is_from p) ps ≡ filter (is_from (behind p)) ps
from_no_place p ps none =
    filter_agree_on (is_from p) (is_from (behind p)) ps
    (All-weaker (λ q. place_eq q p ≡ false) (λ q. is_from p q ≡ is_from (behind p) q) (λ q other. other_from p q other) ps (none_is p ps none))

-- whether a page of a block is in the list
abbrev pub page_in : List Place → ℕ → ℕ → Bool
page_in ps b page = has_place ps (place_at b page)

-- the places from one on: those of a run of pages, and then those after the run
pub run_from : (ps : List Place) (b from n : ℕ) → InOrder place_lt ps
    → filter (is_from (place_at b from)) ps ≡ map (place_at b) (filter (page_in ps b) (range_with_len from n)) ++ filter (is_from (place_at b (from + n))) ps
run_from ps b from zero order = let none : from + zero ≡ from = omega arith in rw none refl
run_from ps b from (suc n) order =
    let on : (from + 1) + n ≡ from + suc n = omega arith in
    let rest : filter (is_from (place_at b (from + 1))) ps ≡ map (place_at b)
    (filter (page_in ps b) (range_with_len (from + 1) n)) ++ filter (is_from (place_at b (from + suc n))) ps =
    run_from ps b (from + 1) n order ∙ ap (λ (k : ℕ). map (place_at b)
    (filter (page_in ps b) (range_with_len (from + 1) n)) ++ filter (is_from (place_at b k)) ps) on in
    elim (cases_Bool (page_in ps b from)) [
      | inl t ↦ from_place (place_at b from) ps order t ∙ ap (λ (l : List Place). place_at b from ∷ l) rest ∙ rw t refl
      | inr f ↦ from_no_place (place_at b from) ps f ∙ rest ∙ rw f refl
    ]

-- ---- the place after a batch

-- what is found from a place on isn't before it
not_before : (ps : List Place) (from p : Place) → InOrder place_lt ps → filter (is_from from) ps ≡ places_from ps (Some p)
    → has_place ps p ≡ true → place_lt p from ≡ false
not_before ps from p order same has =
    let all : filter (is_from from) ps ≡ p ∷ filter (is_from (behind p)) ps = same ∙ from_place p ps order has in
    All-head (λ q. place_lt q from ≡ false) p (filter (is_from (behind p)) ps)
    (subst (λ (l : List Place). All (λ q. place_lt q from ≡ false) l) all (none_before from ps))

-- once a batch's places are passed, the next place of the set is the first one after the batch
pub passed_batch : (s : PlaceSet) (limit page : ℕ) (first : Place) (next : Option Place) → IsPlaceSet s → 0 < limit → has_place s.marked first ≡ true
    → IsPastPlaces s first.block first.page limit page → next ≡ find (is_from (place_at first.block page)) s.marked
    → IsAfterBatch limit s.marked first next
passed_batch s limit page first next is some has past found =
    let marked : List Place = s.marked in
    let b : ℕ = first.block in
    let order : InOrder place_lt marked = order_from_AllPairs place_lt marked is.is_ascending in
    let low : first.page ≤ page = past.low in
    let n : ℕ = page - first.page in
    let end : first.page + n ≡ page = omega arith in
    let pages : List ℕ = filter (page_in marked b) (range_with_len first.page n) in
    let count : length pages ≡ places_between s b first.page page = length-filter (page_in marked b) (range_with_len first.page n) in
    let on = goes_on (place_at b page) marked next is.is_ascending found in
    let all : places_from marked (Some first) ≡ map (place_at b) pages ++ places_from marked next =
    run_from marked b first.page n order ∙ ap (λ (k : ℕ). map (place_at b) pages ++ filter (is_from (place_at b k)) marked) end
    ∙ ap (λ (l : List Place). map (place_at b) pages ++ l) on.0 in
    let in_table : IsPlace s.table first = All-has (IsPlace s.table) first marked is.is_within has in
    let within : first.page < (block s.table.blocks b).pages = in_table.has_page in
    let begins : 0 < length pages = elim (cases_lt first.page page) [
      | inr same ↦ omega (arith, count, past.all (omega arith))
      | inl more ↦
          let one : n ≡ suc (n - 1) = omega arith in
          let here : page_in marked b first.page ≡ true = has in
          let pages_are : pages ≡ first.page ∷ filter (page_in marked b) (range_with_len (first.page + 1) (n - 1)) =
          ap (λ (k : ℕ). filter (page_in marked b) (range_with_len first.page k)) one ∙ rw here refl in
          let len = ap (λ (l : List ℕ). length l) pages_are in
          omega (arith, len)
    ] in
    let ends : MayEnd limit first pages next = λ p e. elim (cases_lt page (block s.table.blocks b).pages) [
      | inl before ↦ inr (count ∙ past.all before)
      | inr after ↦
          let in_set : has_place marked p ≡ true = rw e at on.1 in
          let late : place_lt p (place_at b page) ≡ false = not_before marked (place_at b page) p order (rw e at on.0) in_set in
          let has_p : IsPlace s.table p = All-has (IsPlace s.table) p marked is.is_within in_set in
          let inside : p.page < (block s.table.blocks p.block).pages = has_p.has_page in
          inl (λ same. elim (place_lt-false p (place_at b page) late) [
            | inl less ↦ absurd (let l : b < p.block = less in omega arith)
            | inr at ↦ absurd (
                let le : page ≤ p.page = at.1 in
                let inside' : p.page < (block s.table.blocks b).pages = rw same at inside in
                omega arith)
          ])
    ] in
    record {
      batch = record { block = b; pages = pages };
      is_first = batch_ends limit marked first pages next is.is_ascending some all on.1 (omega (arith, count, past.few)) (λ none. absurd (omega arith)) ends;
      is_in_set = on.1;
    }
