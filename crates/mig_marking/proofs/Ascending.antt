-- A set of places is known by what it has.
use Rattle.std.proofs.Common.{◌≡◌, Bool, true, false, List, [], ◌∷◌, ◌+◌, not, refl, sym, ap, subst, ◌∙◌, inl, inr, arith}
use Rattle.std.specs.Prelude.{IsTrue, length}
use Rattle.std.specs.List.{All}
use Rattle.std.proofs.lemmas.Bool.{or_cases, or_right}
use Rattle.std.proofs.lemmas.List.Elements.{All-head, All-tail}
use Rattle.std.proofs.lemmas.List.Filters.{length-filter_both}
use Rattle.mig_mem.specs.declared.place.Place.{Place}
use Rattle.mig_mem.specs.Place.{place_eq, place_lt, has_place, IsPlace, places}
use Rattle.mig_mem.specs.RamTable.{RamTable, total_pages}
use Rattle.mig_mem.specs.PlaceSet.{PlaceSet, IsPlaceSet, places_where}
use Rattle.mig_mem.proofs.Members.{InOrder, order_from_AllPairs}
use Rattle.mig_mem.proofs.PlaceOrder.{place_order, place_eq-true}
use Rattle.mig_mem.proofs.Sets.{length-places, where_set, has_place-where}
use Rattle.mig_mem.proofs.Walks.{has_itself}

-- an element of such a list comes after what stands before all of it
after_all : (p q : Place) (ps : List Place) → All (λ r. IsTrue (place_lt p r)) ps → has_place ps q ≡ true → place_lt p q ≡ true
after_all p q [] all has = absurd cc
after_all p q (r ∷ rs) all has =
    let L : Place → Type 0 = λ x. IsTrue (place_lt p x) in
    elim (or_cases (place_eq r q) (has_place rs q) has) [
      | inl t ↦ let same : r ≡ q = place_eq-true r q t in ap (place_lt p) (sym same) ∙ All-head L r rs all
      | inr u ↦ after_all p q rs (All-tail L r rs all) u
    ]

-- no place stands before itself
not_before : (p q : Place) → place_lt p q ≡ true → place_lt q p ≡ true → true ≡ false
not_before p q h k = sym k ∙ place_order.one_way p q h

-- the first places of two such lists with the same places
same_head : (p q : Place) (ps qs : List Place) → InOrder place_lt (p ∷ ps) → InOrder place_lt (q ∷ qs)
    → ((r : Place) → has_place (p ∷ ps) r ≡ has_place (q ∷ qs) r) → p ≡ q
same_head p q ps qs hp hq same =
    let there = sym (same p) ∙ has_itself p ps in
    let here = same q ∙ has_itself q qs in
    elim (or_cases (place_eq q p) (has_place qs p) there) [
      | inl t ↦ sym (place_eq-true q p t)
      | inr u ↦ elim (or_cases (place_eq p q) (has_place ps q) here) [
        | inl t ↦ place_eq-true p q t
        | inr v ↦ absurd (let clash = not_before q p (after_all q p qs hq.0 u) (after_all p q ps hp.0 v) in cc)
      ]
    ]

-- what has its first place taken away still has the same places
same_tail : (p : Place) (ps qs : List Place) (r : Place) → InOrder place_lt (p ∷ ps) → has_place (p ∷ ps) r ≡ has_place (p ∷ qs) r
    → has_place ps r ≡ true → has_place qs r ≡ true
same_tail p ps qs r hp same has =
    elim (or_cases (place_eq p r) (has_place qs r) (sym same ∙ or_right (place_eq p r) (has_place ps r) has)) [
      | inr u ↦ u
      | inl t ↦ absurd (
          let lt = after_all p r ps hp.0 has in
          let back : place_lt r p ≡ true = ap (place_lt r) (place_eq-true p r t) ∙ ap (λ (x : Place). place_lt x r) (sym (place_eq-true p r t)) ∙ lt in
          let clash = not_before p r lt back in cc)
    ]

not_not : (b : Bool) → not (not b) ≡ b
not_not true = refl
not_not false = refl

bool_same : (a b : Bool) → (a ≡ true → b ≡ true) → (b ≡ true → a ≡ true) → a ≡ b
bool_same true b f g = sym (f refl)
bool_same false true f g = g refl
bool_same false false f g = refl

-- two lists in ascending order that have the same places are equal
pub same_members : (ps qs : List Place) → InOrder place_lt ps → InOrder place_lt qs → ((r : Place) → has_place ps r ≡ has_place qs r) → ps ≡ qs
same_members [] [] hp hq same = refl
same_members [] (q ∷ qs) hp hq same = absurd (let clash = same q ∙ has_itself q qs in cc)
same_members (p ∷ ps) [] hp hq same = absurd (let clash = sym (same p) ∙ has_itself p ps in cc)
same_members (p ∷ ps) (q ∷ qs) hp hq same =
    let first : p ≡ q = same_head p q ps qs hp hq same in
    let alike : (r : Place) → has_place (p ∷ ps) r ≡ has_place (p ∷ qs) r = λ r. same r ∙ ap (λ (x : Place). has_place (x ∷ qs) r) (sym first) in
    let hq2 : InOrder place_lt (p ∷ qs) = subst (λ (x : Place). InOrder place_lt (x ∷ qs)) (sym first) hq in
    let rest : ps ≡ qs = same_members ps qs hp.1 hq.1 (λ r. bool_same (has_place ps r) (has_place qs r)
    (same_tail p ps qs r hp (alike r)) (same_tail p qs ps r hq2 (sym (alike r)))) in
    ap (λ (x : Place). x ∷ ps) first ∙ ap (λ (l : List Place). q ∷ l) rest

-- a place of a set is the table's
all_has : (table : RamTable) (ps : List Place) (p : Place) → All (IsPlace table) ps → has_place ps p ≡ true → IsPlace table p
all_has table [] p all has = absurd cc
all_has table (q ∷ qs) p all has = elim (or_cases (place_eq q p) (has_place qs p) has) [
  | inl t ↦ subst (IsPlace table) (place_eq-true q p t) (All-head (IsPlace table) q qs all)
  | inr u ↦ all_has table qs p (All-tail (IsPlace table) q qs all) u
]

-- each place that a set has marked is a place of its table
pub within_has : (s : PlaceSet) (p : Place) → IsPlaceSet s → has_place s.marked p ≡ true → IsPlace s.table p
within_has s p is has = all_has s.table s.marked p is.is_within has

-- a set is the list of the table's places that it has
pub set_is : (s : PlaceSet) (f : Place → Bool) → IsPlaceSet s → ((p : Place) → IsPlace s.table p → has_place s.marked p ≡ f p)
    → s.marked ≡ places_where s.table f
set_is s f is same =
    let where_is = where_set s.table f is.has_table in
    same_members s.marked (places_where s.table f) (order_from_AllPairs place_lt s.marked is.is_ascending)
    (order_from_AllPairs place_lt (places_where s.table f) where_is.is_ascending) (λ p.
    bool_same (has_place s.marked p) (has_place (places_where s.table f) p)
    (λ has. let here = within_has s p is has in has_place-where s.table f p here ∙ sym (same p here) ∙ has)
    (λ has. let here = within_has (record { table = s.table; marked = places_where s.table f }) p where_is has in same p here
    ∙ sym (has_place-where s.table f p here) ∙ has))

-- the places that a set lacks, and those that it has, are the table's
pub lacking : (s : PlaceSet) → IsPlaceSet s → length (places_where s.table (λ p. not (has_place s.marked p))) + length s.marked ≡ total_pages s.table.blocks
unfolding places_where
lacking s is =
    let marked : s.marked ≡ places_where s.table (λ p. has_place s.marked p) = set_is s (λ p. has_place s.marked p) is (λ p here. refl) in
    let counted : length s.marked ≡ length (places_where s.table (λ p. has_place s.marked p)) = ap (λ (l : List Place). length l) marked in
    omega (
      arith,
      counted,
      length-places s.table,
      length-filter_both (λ p. not (has_place s.marked p)) (λ p. has_place s.marked p) (λ p. sym (not_not (has_place s.marked p))) (places s.table),
    )
