-- Places of a packet that are claimed, one after another.
use Rattle.std.proofs.Common.{ℕ, ◌≡◌, ◌+◌, ◌/◌, ◌||◌, ◌&&◌, Bool, true, false, not, List, [], ◌∷◌, map, refl, sym, ap, subst, ◌∙◌, inl, inr, arith}
use Rattle.std.specs.List.{range_with_len}
use Rattle.std.proofs.lemmas.Bool.{cases_Bool}
use Rattle.std.proofs.lemmas.List.Folds.{list_any-append}
use Rattle.mig_mem.proofs.PlaceOrder.{place_eq-true, place_eq-from, place_eq-flip}
use Rattle.std.proofs.lemmas.List.FromFn.{map-range_with_len_more}
use Rattle.mig_mem.specs.declared.place.Place.{Place}
use Rattle.mig_mem.specs.RamTable.{RamTable}
use Rattle.mig_mem.specs.Place.{IsPlace, has_place, place_at, place_eq}
use Rattle.mig_mem.specs.PlaceSet.{PlaceSet, with_place, without_place}
use Rattle.mig_mem.proofs.Sets.{has_place-where}
use Rattle.mig_packet.specs.Packet.{offset_at}
use Rattle.mig_apart.specs.Claims.{ClaimsMore, ClaimsLess}

-- the place of a page of a packet
abbrev pub nth : RamTable → ℕ → List ℕ → ℕ → Place
nth table b head i = place_at b (offset_at head i / table.page_size)

-- the first places of some
abbrev pub first_places : (ℕ → Place) → ℕ → List Place
first_places f i = map f (range_with_len 0 i)

has_more : (f : ℕ → Place) (i : ℕ) (p : Place) → has_place (first_places f (i + 1)) p ≡ (has_place (first_places f i) p || place_eq (f i) p)
has_more f i p =
    ap (λ (l : List Place). has_place l p) (map-range_with_len_more f 0 i i (omega arith))
    ∙ list_any-append (λ (q : Place). place_eq q p) (first_places f i) (f i ∷ [])
    ∙ ap (λ (x : Bool). has_place (first_places f i) p || x) (or_false (place_eq (f i) p))
  where
    or_false : (x : Bool) → (x || false) ≡ x
    or_false true = refl
    or_false false = refl

eq_sym : (p q : Place) → place_eq p q ≡ place_eq q p
eq_sym p q = elim (cases_Bool (place_eq p q)) [
  | inl t ↦ t ∙ sym (place_eq-from q p (sym (place_eq-true p q t)))
  | inr f ↦ f ∙ sym (place_eq-flip p q f)
]

-- The first i places are claimed.
pub record HasClaimed (table : RamTable) (f : ℕ → Place) (i : ℕ) (old now : PlaceSet) : Type 0 where
  pub same_table : now.table ≡ table
  pub claims : ClaimsMore table (first_places f i) old now

pub record HasFreed (table : RamTable) (f : ℕ → Place) (i : ℕ) (old now : PlaceSet) : Type 0 where
  pub same_table : now.table ≡ table
  pub frees : ClaimsLess table (first_places f i) old now

or_order : (a b c : Bool) → (a || (b || c)) ≡ ((b || a) || c)
or_order true true c = refl
or_order true false c = refl
or_order false true c = refl
or_order false false c = refl

and_order : (a b c : Bool) → ((a && not b) && not c) ≡ (a && not (b || c))
and_order true true c = refl
and_order true false c = refl
and_order false b c = refl

-- if the first `i` places are claimed, and then place `i`, the first `i + 1` are claimed
pub claimed_more : (table : RamTable) (f : ℕ → Place) (i : ℕ) (old now new : PlaceSet) → new ≡ with_place now (f i)
    → HasClaimed table f i old now → HasClaimed table f (i + 1) old new
claimed_more table f i old now new is at =
    let n : Place = f i in
    record {
      same_table = ap (λ (s : PlaceSet). s.table) is ∙ at.same_table;
      claims = λ p there.
          let here : IsPlace now.table p = subst (λ (t : RamTable). IsPlace t p) (sym at.same_table) there in
          ap (λ (s : PlaceSet). has_place s.marked p) is
          ∙ has_place-where now.table (λ q. place_eq q n || has_place now.marked q) p here
          ∙ ap (λ (x : Bool). place_eq p n || x) (at.claims p there)
          ∙ or_order (place_eq p n) (has_place (first_places f i) p) (has_place old.marked p)
          ∙ ap (λ (x : Bool). (has_place (first_places f i) p || x) || has_place old.marked p) (eq_sym p n)
          ∙ ap (λ (x : Bool). x || has_place old.marked p) (sym (has_more f i p));
    }

-- if the first `i` places are freed, and then place `i`, the first `i + 1` are freed
pub freed_more : (table : RamTable) (f : ℕ → Place) (i : ℕ) (old now new : PlaceSet) → new ≡ without_place now (f i)
    → HasFreed table f i old now → HasFreed table f (i + 1) old new
freed_more table f i old now new is at =
    let n : Place = f i in
    record {
      same_table = ap (λ (s : PlaceSet). s.table) is ∙ at.same_table;
      frees = λ p there.
          let here : IsPlace now.table p = subst (λ (t : RamTable). IsPlace t p) (sym at.same_table) there in
          ap (λ (s : PlaceSet). has_place s.marked p) is
          ∙ has_place-where now.table (λ q. has_place now.marked q && not (place_eq q n)) p here
          ∙ ap (λ (x : Bool). x && not (place_eq p n)) (at.frees p there)
          ∙ and_order (has_place old.marked p) (has_place (first_places f i) p) (place_eq p n)
          ∙ ap (λ (x : Bool). has_place old.marked p && not (has_place (first_places f i) p || x)) (eq_sym p n)
          ∙ ap (λ (x : Bool). has_place old.marked p && not x) (sym (has_more f i p));
    }
