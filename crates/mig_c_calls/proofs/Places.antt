-- Places that C names.
use Rattle.std.proofs.Common.{ℕ, ◌≡◌, ◌<◌, ◌≤◌, ◌∙◌, List, length, map, take, get_or, sym, subst, arith}
use Rattle.std.specs.Prelude.{All}
use Rattle.std.proofs.lemmas.List.{get_or-map, length-map, take_all}
use Rattle.mig_mem.specs.declared.place.Place.{Place}
use Rattle.mig_c_calls.specs.declared.sending.NamedPlace.{NamedPlace}
use Rattle.mig_c_calls.specs.Multi.{place_of}

-- what holds of all holds of one
pub place_there : (P : Place → Type 0) (places : List NamedPlace) (i : ℕ) (d : NamedPlace) (p : Place) → i < length places → p ≡ place_of (get_or places i d)
    → All P (map place_of places) → P p
place_there P places i d p lt is all =
    subst P (get_or-map place_of places i d p lt ∙ sym is) (all i p (omega (arith, lt, length-map places place_of)))

-- all were taken
pub all_taken : (P : Place → Type 0) (places : List NamedPlace) (i : ℕ) → length places ≤ i → All P (map place_of (take i places)) → All P (map place_of places)
all_taken P places i past all = subst (λ (l : List NamedPlace). All P (map place_of l)) (take_all i places past) all
