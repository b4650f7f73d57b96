-- An ascending list of places from one of them on.
use Rattle.std.proofs.Common.{◌≡◌, ◌<◌, ◌≤◌, ◌+◌, ◌^◌, List, [], ◌∷◌, refl, sym, ap, ◌∙◌, inl, inr, arith, Option, Some, None, Bool, true, false, not, subst}
use Rattle.std.specs.Prelude.{◌⊎◌, IsTrue, nat_lt}
use Rattle.std.specs.List.{filter, find, All}
use Rattle.std.proofs.lemmas.Bool.{cases_Bool, or_cases, ltb-true, ltb-false}
use Rattle.std.proofs.lemmas.List.Elements.{All-head, All-tail, All-nil, All-cons, All-weaker}
use Rattle.std.proofs.lemmas.Option.{same_Some}
use Rattle.mig_mem.specs.declared.place.Place.{Place}
use Rattle.mig_mem.specs.Place.{place_at, place_eq, place_lt, has_place, IsAscending}
use Rattle.mig_mem.proofs.Members.{InOrder, order_from_AllPairs, filter_agree_on, All-any}
use Rattle.mig_mem.proofs.PlaceOrder.{place_eq-true, place_lt-true, place_lt-from, place_ge-from, place_order}
use Rattle.mig_mem.specs.PlaceSet.{PlaceSet, IsPlaceSet}
use Rattle.mig_mem.proofs.TablePlaces.{find_place}
use Rattle.mig_mem.proofs.Walks.{All-has, found_place, found_page}
use Rattle.mig_send.specs.Batches.{IsInSet, places_from}

-- the place after one in its block
abbrev pub behind : Place → Place
behind p = place_at p.block (p.page + 1)

lt_behind : (q p : Place) → place_lt q p ≡ true → place_lt q (behind p) ≡ true
lt_behind q p lt = place_lt-from q (behind p) (elim (place_lt-true q p lt) [
  | inl a ↦ inl a
  | inr a ↦ let l : q.page < p.page = a.1 in inr (a.0, omega arith)
])

ge_behind : (p q : Place) → place_lt p q ≡ true → place_lt q (behind p) ≡ false
ge_behind p q lt = place_ge-from q (behind p) (elim (place_lt-true p q lt) [
  | inl a ↦ inl a
  | inr a ↦ let l : p.page < q.page = a.1 in inr (sym a.0, omega arith)
])

-- whether a place isn't before one
abbrev pub is_from : Place → Place → Bool
is_from p q = not (place_lt q p)

-- from a place on: that place, and what is after it
pub from_place : (p : Place) (ps : List Place) → InOrder place_lt ps → has_place ps p ≡ true → filter (is_from p) ps ≡ p ∷ filter (is_from (behind p)) ps
from_place p [] order has = absurd cc
from_place p (q ∷ qs) order has = elim (cases_Bool (place_eq q p)) [
  | inl t ↦
      let same : q ≡ p = place_eq-true q p t in
      let later : All (λ r. IsTrue (place_lt p r)) qs = subst (λ (x : Place). All (λ r. IsTrue (place_lt x r)) qs) same order.0 in
      let kept : place_lt q p ≡ false = ap (λ (x : Place). place_lt x p) same ∙ place_ge-from p p (inr (refl, omega arith)) in
      let gone : place_lt q (behind p) ≡ true = ap (λ (x : Place). place_lt x (behind p)) same ∙ place_lt-from p (behind p) (inr (refl, omega arith)) in
      let others : filter (is_from p) qs ≡ filter (is_from (behind p)) qs = filter_agree_on (is_from p) (is_from (behind p)) qs
      (All-weaker (λ r. IsTrue (place_lt p r)) (λ r. is_from p r ≡ is_from (behind p) r)
      (λ r lt. ap not (place_order.one_way p r lt ∙ sym (ge_behind p r lt))) qs later) in
      rw (kept, gone) (ap (λ (l : List Place). q ∷ l) others ∙ ap (λ (x : Place). x ∷ filter (is_from (behind p)) qs) same)
  | inr n ↦
      let in_rest : has_place qs p ≡ true = elim (or_cases (place_eq q p) (has_place qs p) has) [ inl t ↦ absurd cc | inr t ↦ t ] in
      let before : place_lt q p ≡ true = All-has (λ r. IsTrue (place_lt q r)) p qs order.0 in_rest in
      let before_too : place_lt q (behind p) ≡ true = lt_behind q p before in
      rw (before, before_too) (from_place p qs order.1 in_rest)
]

-- if nothing is found from a place on, there is nothing
filter_nothing : (f : Place → Bool) (ps : List Place) → find f ps ≡ None → filter f ps ≡ []
filter_nothing f [] none = refl
filter_nothing f (q ∷ qs) none = elim (cases_Bool (f q)) [
  | inl t ↦ let some : Some q ≡ None = rw t at none in absurd cc
  | inr n ↦ rw n (filter_nothing f qs (rw n at none))
]

-- what is from a place on is what is from the first on that is found there
filter_found : (from p : Place) (ps : List Place) → InOrder place_lt ps → find (is_from from) ps ≡ Some p → filter (is_from from) ps ≡ filter (is_from p) ps
filter_found from p [] order some = absurd cc
filter_found from p (q ∷ qs) order some = elim (cases_Bool (place_lt q from)) [
  | inr n ↦
      let here : Some q ≡ Some p = rw n at some in
      let same : q ≡ p = same_Some q p here in
      let later : All (λ r. IsTrue (place_lt p r)) qs = subst (λ (x : Place). All (λ r. IsTrue (place_lt x r)) qs) same order.0 in
      let first : place_lt p from ≡ false = ap (λ (x : Place). place_lt x from) (sym same) ∙ n in
      let kept : place_lt q p ≡ false = ap (λ (x : Place). place_lt x p) same ∙ place_ge-from p p (inr (refl, omega arith)) in
      let others : filter (is_from from) qs ≡ filter (is_from p) qs = filter_agree_on (is_from from) (is_from p) qs
      (All-weaker (λ r. IsTrue (place_lt p r)) (λ r. is_from from r ≡ is_from p r)
      (λ r lt. ap not (place_order.chain r p from (place_order.one_way p r lt) first ∙ sym (place_order.one_way p r lt))) qs later) in
      rw (n, kept) (ap (λ (l : List Place). q ∷ l) others)
  | inl t ↦
      let in_rest : find (is_from from) qs ≡ Some p = rw t at some in
      let before : place_lt q p ≡ true = All-has (λ r. IsTrue (place_lt q r)) p qs order.0 (found_place (is_from from) p qs in_rest) in
      rw (t, before) (filter_found from p qs order.1 in_rest)
]

-- the walk goes on at what is found from a place on
pub goes_on : (from : Place) (ps : List Place) (next : Option Place) → IsAscending ps → next ≡ find (is_from from) ps
    → (filter (is_from from) ps ≡ places_from ps next) × IsInSet ps next
goes_on from ps None order found = (filter_nothing (is_from from) ps (sym found), tt)
goes_on from ps (Some p) order found = (filter_found from p ps (order_from_AllPairs place_lt ps order) (sym found), found_place (is_from from) p ps (sym found))

-- the first place, and what follows it
pub walked : (p : Place) (ps : List Place) (next : Option Place) → IsAscending ps → has_place ps p ≡ true → next ≡ find (is_from (behind p)) ps
    → (places_from ps (Some p) ≡ p ∷ places_from ps next) × IsInSet ps next
walked p ps next order has found =
    let on = goes_on (behind p) ps next order found in
    (from_place p ps (order_from_AllPairs place_lt ps order) has ∙ ap (λ (l : List Place). p ∷ l) on.0, on.1)

-- from the first place on: all
filter_all : (f : Place → Bool) (ps : List Place) → All (λ q. f q ≡ true) ps → filter f ps ≡ ps
filter_all f [] all = refl
filter_all f (q ∷ qs) all =
    let here : f q ≡ true =
    All-head (λ r. f r ≡ true) q qs all in rw here (ap (λ (l : List Place). q ∷ l) (filter_all f qs (All-tail (λ r. f r ≡ true) q qs all)))

-- of ascending places, all are from the first one on, where the walk begins
pub walk_begins : (ps : List Place) (next : Option Place) → IsAscending ps → next ≡ find (is_from (place_at 0 0)) ps
    → (ps ≡ places_from ps next) × IsInSet ps next
walk_begins ps next order found =
    let on = goes_on (place_at 0 0) ps next order found in (
      sym (filter_all (is_from (place_at 0 0)) ps
          (All-any (λ q. is_from (place_at 0 0) q ≡ true) (λ q. ap not (place_ge-from q (place_at 0 0) (no_place_before q))) ps)) ∙ on.0,
      on.1,
    )
  where
    no_place_before : (q : Place) → (0 < q.block) ⊎ ((q.block ≡ 0) × (0 ≤ q.page))
    no_place_before q =
        elim (cases_Bool (nat_lt 0 q.block)) [ inl t ↦ inl (ltb-true 0 q.block t) | inr f ↦ inr (omega (arith, ltb-false 0 q.block f), omega arith) ]

-- what is from a place on isn't before it
pub none_before : (p : Place) (ps : List Place) → All (λ q. place_lt q p ≡ false) (filter (is_from p) ps)
none_before p [] = All-nil (λ q. place_lt q p ≡ false)
none_before p (q ∷ qs) = elim (cases_Bool (place_lt q p)) [
  | inl t ↦ rw t (none_before p qs)
  | inr n ↦ rw n (All-cons (λ r. place_lt r p ≡ false) q (filter (is_from p) qs) n (none_before p qs))
]

-- a place of a set has a page number far below what its type holds
pub place_page : (s : PlaceSet) (p : Place) → IsPlaceSet s → has_place s.marked p ≡ true → p.page < 2 ^ 40
place_page s p is has = found_page s (λ q. place_eq q p) p is (find_place p s.marked has)
