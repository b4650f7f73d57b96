-- Places that are added to a set, one after another, and those of a round.
use Rattle.std.proofs.Common.{ℕ, ◌≡◌, ◌<◌, ◌≤◌, ◌+◌, List, [], ◌∷◌, ◌++◌, length, take, refl, sym, ap, subst, ◌∙◌, append_assoc, Some, None, Bool, false, not}
use Rattle.std.proofs.Common.{◌||◌, arith}
use Rattle.std.specs.List.{find}
use Rattle.std.proofs.lemmas.List.{length-take, length_push}
use Rattle.std.proofs.lemmas.List.Folds.{list_any-append}
use Rattle.mig_mem.specs.declared.place.Place.{Place}
use Rattle.mig_mem.specs.Place.{place_at, place_eq, place_lt, has_place}
use Rattle.mig_mem.specs.PlaceSet.{PlaceSet, IsPlaceSet, places_where, with_place}
use Rattle.mig_mem.proofs.Sets.{where_agree, has_place-where}
use Rattle.mig_mem.proofs.Walks.{HasListed, listed_more, listed_all}
use Rattle.mig_assemble.specs.Judging.{places_of}
use Rattle.mig_assemble.specs.Arrivals.{RoundSoFar, pages_that_came}
use Rattle.mig_assemble.specs.NamedPlaces.{HasPlaces, AddsPlaces, AddsArrivals}
use Rattle.mig_assemble.proofs.Marked.{place_added}

-- the first i places of a set were added, and the walk goes on at a place after them
pub record HasAdded (more old now : PlaceSet) (from : Place) (i : ℕ) : Type 0 where
  pub few : i ≤ length more.marked
  pub listed : HasListed more from (take i more.marked)
  pub adds : AddsPlaces (take i more.marked) old now
  pub same_table : now.table ≡ old.table

-- the next place of the set is added to those before it
pub added_more : (more old mid now : PlaceSet) (from p : Place) (i : ℕ) → IsPlaceSet more → HasAdded more old mid from i
    → find (λ q. not (place_lt q from)) more.marked ≡ Some p → now ≡ with_place mid p → HasAdded more old now (place_at p.block (p.page + 1)) (i + 1)
added_more more old mid now from p i is h some put =
    let front : List Place = take i more.marked in
    let next = listed_more more from p front is h.listed some in
    let long : length front ≡ i = omega (arith, length-take i more.marked, h.few) in
    let lt : i < length more.marked = omega (arith, next.1) in
    let longer : length (front ++ p ∷ []) ≡ i + 1 = omega (arith, length_push front p) in
    let same : front ++ p ∷ [] ≡ take (i + 1) more.marked = next.0.front ∙ ap (λ (n : ℕ). take n more.marked) longer in
    record {
      few = omega arith;
      listed = subst (λ (ps : List Place). HasListed more (place_at p.block (p.page + 1)) ps) same next.0;
      adds = λ table places has.
          subst (λ (l : List Place). HasPlaces table l now) (append_assoc places front (p ∷ []) ∙ ap (λ (l : List Place). places ++ l) same)
          (place_added table (places ++ front) mid now p (h.adds table places has) put);
      same_table = ap (λ (s : PlaceSet). s.table) put ∙ h.same_table;
    }

-- if no place of the set is left, all were added
pub added_all : (more old now : PlaceSet) (from : Place) (i : ℕ) → HasAdded more old now from i
    → find (λ q. not (place_lt q from)) more.marked ≡ None → AddsPlaces more.marked old now
added_all more old now from i h none = subst (λ (ps : List Place). AddsPlaces ps old now) (listed_all more from (take i more.marked) h.listed none) h.adds

-- ---- the places of a round

-- a place is among those of two lists if it is among those of one
pub has_place-append : (xs ys : List Place) (p : Place) → has_place (xs ++ ys) p ≡ (has_place xs p || has_place ys p)
has_place-append xs ys p = list_any-append (λ q. place_eq q p) xs ys

-- the places of a round are added to an empty set by taking its set of them
pub taken_over : (r : RoundSoFar) (old : PlaceSet) → length old.marked ≡ 0 → AddsArrivals r old r.seen
taken_over r old none = λ table places came has is.
    let names : List Place = places_of (pages_that_came table came) in
    let empty : old.marked ≡ [] = no_elements old.marked none in
    has.has_seen.marks
    ∙ ap (λ (ps : List Place). record { table = table; marked = ps })
    (where_agree table (has_place names) (has_place (places ++ names)) (λ p here.
    let lacks : has_place places p ≡ false = sym (has_place-where table (has_place places) p here)
    ∙ ap (λ (s : PlaceSet). has_place s.marked p) (sym is) ∙ ap (λ (ps : List Place). has_place ps p) empty in
    sym (has_place-append places names p ∙ ap (λ (b : Bool). b || has_place names p) lacks)))
  where
    no_elements : {X : Type 0} (xs : List X) → length xs ≡ 0 → xs ≡ []
    no_elements [] e = refl
    no_elements (x ∷ xs) e = absurd (omega (arith, e))

-- or by adding each
pub each_added : (r : RoundSoFar) (old new : PlaceSet) → AddsPlaces r.seen.marked old new → AddsArrivals r old new
each_added r old new adds = λ table places came has is.
    let names : List Place = places_of (pages_that_came table came) in
    let marked : r.seen.marked ≡ places_where table (has_place names) = ap (λ (s : PlaceSet). s.marked) has.has_seen.marks in
    adds table places is
    ∙ ap (λ (ps : List Place). record { table = table; marked = ps })
    (where_agree table (has_place (places ++ r.seen.marked)) (has_place (places ++ names)) (λ p here.
    has_place-append places r.seen.marked p
    ∙ ap (λ (b : Bool). has_place places p || b) (ap (λ (ps : List Place). has_place ps p) marked ∙ has_place-where table (has_place names) p here)
    ∙ sym (has_place-append places names p)))
