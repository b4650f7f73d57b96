-- Places that are marked one after another.
use Rattle.std.proofs.Common.{ℕ, ◌≡◌, ◌<◌, ◌+◌, List, [], ◌∷◌, ◌++◌, length, map, take, get_or, refl, sym, ap, ◌∙◌, inl}
use Rattle.std.proofs.Common.{inr, Option, Some, None, Bool, true, false, subst, append_assoc, ◌||◌}
use Rattle.std.specs.Prelude.{Contains, flat_map}
use Rattle.std.proofs.lemmas.Bool.{or_parts}
use Rattle.std.proofs.lemmas.List.{map-append, map_more, flat_map_more}
use Rattle.std.proofs.lemmas.List.Folds.{list_any-append}
use Rattle.mig_mem.specs.declared.place.Place.{Place}
use Rattle.mig_mem.specs.RamTable.{RamTable}
use Rattle.mig_mem.specs.Place.{place_eq, place_lt, has_place, IsPlace}
use Rattle.mig_mem.specs.Image.{Page}
use Rattle.mig_mem.specs.PlaceSet.{PlaceSet, with_place}
use Rattle.mig_mem.proofs.PlaceOrder.{place_order, places_apart, place_eq-true, place_eq-from, place_eq-flip}
use Rattle.mig_mem.proofs.Sets.{where_agree, where_none, where_with, has_place-where}
use Rattle.mig_mem.proofs.Tracked.{contains_from_has}
use Rattle.mig_packet.specs.Packet.{Fields}
use Rattle.mig_assemble.specs.Judging.{lesser, packet_pages, all_round_pages, places_of}
use Rattle.mig_assemble.specs.Seen.{HasSeen}
use Rattle.mig_assemble.specs.NamedPlaces.{HasPlaces}
use Rattle.mig_assemble.proofs.Elements.{contains_cases, contains_none}
use Rattle.mig_assemble.proofs.Least.{least_twice-new, least_twice-again}

lacks_each : (ps : List Place) (p : Place) → has_place ps p ≡ false → (q : Place) → Contains ps q → place_eq q p ≡ false
lacks_each [] p h q k = contains_none q k
lacks_each (r ∷ rs) p h q k =
    let both = or_parts (place_eq r p) (has_place rs p) h in
    elim (contains_cases r rs q k) [
      | inl e ↦ subst (λ (s : Place). place_eq s p ≡ false) e both.0
      | inr later ↦ lacks_each rs p both.1 q later
    ]

-- one place more is among a list of places
pub has_place-push : (ps : List Place) (p q : Place) → (place_eq q p || has_place ps q) ≡ has_place (ps ++ p ∷ []) q
has_place-push ps p q =
    turned (place_eq q p) refl (has_place ps q) ∙ sym (list_any-append (λ r. place_eq r q) ps (p ∷ []))
  where
    turned : (b : Bool) → place_eq q p ≡ b → (c : Bool) → (b || c) ≡ (c || (place_eq p q || false))
    turned true e true = refl
    turned true e false = let t : place_eq p q ≡ true = place_eq-from p q (sym (place_eq-true q p e)) in rw t refl
    turned false e true = refl
    turned false e false = let f : place_eq p q ≡ false = place_eq-flip q p e in rw f refl

-- and so it is in the set of these places
pub place_added : (table : RamTable) (places : List Place) (s new : PlaceSet) (p : Place) → HasPlaces table places s
    → new ≡ with_place s p → HasPlaces table (places ++ p ∷ []) new
place_added table places s new p has put =
    put ∙ ap (λ (x : PlaceSet). with_place x p) has ∙ where_with table (has_place places) p
    ∙ ap (λ (ps : List Place). record { table = table; marked = ps })
    (where_agree table (λ q. place_eq q p || has_place places q) (has_place (places ++ p ∷ [])) (λ q _. has_place-push places p q))

-- before the first page no place was seen
pub seen_nothing : (seen : PlaceSet) → seen.marked ≡ [] → HasSeen seen.table [] seen None
seen_nothing seen none = record {
  marks = ap (λ (ps : List Place). record { table = seen.table; marked = ps }) (none ∙ sym (where_none seen.table (has_place []) (λ p is. refl)));
  least = refl;
}

module _ (table : RamTable) (places : List Place) (seen new : PlaceSet) (double : Option Place) (place : Place)
    (so_far : HasSeen table places seen double) (is : IsPlace table place) (put : new ≡ with_place seen place) where
  marks_more : HasPlaces table (places ++ place ∷ []) new
  marks_more = place_added table places seen new place so_far.marks put

  marked_is : has_place seen.marked place ≡ has_place places place
  marked_is = ap (λ (s : PlaceSet). has_place s.marked place) so_far.marks ∙ has_place-where table (has_place places) place is

  pub seen_new : has_place seen.marked place ≡ false → HasSeen table (places ++ place ∷ []) new double
  seen_new h = record {
    marks = marks_more;
    least = so_far.least
        ∙ sym (least_twice-new place_lt place_order place_eq places_apart (λ a b. place_eq-true a b) (λ a. place_eq-from a a refl) places place
        (lacks_each places place (sym marked_is ∙ h)));
  }

  pub seen_again : has_place seen.marked place ≡ true → HasSeen table (places ++ place ∷ []) new (Some (lesser place_lt place double))
  seen_again h = record {
    marks = marks_more;
    least = ap (λ (o : Option Place). Some (lesser place_lt place o)) so_far.least
        ∙ sym (least_twice-again place_lt place_order place_eq places_apart (λ a b. place_eq-true a b) (λ a. place_eq-from a a refl) places place
        (contains_from_has places place (sym marked_is ∙ h)));
  }

-- the places of one packet more, of a list of values that each have one
pub places_step : {X : Type 0} (packet : X → Fields) (table : RamTable) (records : List Page) (xs : List X) (i : ℕ) (x : X)
    → i < length xs → x ≡ get_or xs i x
    → places_of (all_round_pages table records (map packet (take i xs))) ++ places_of (packet_pages table (packet x))
    ≡ places_of (all_round_pages table records (map packet (take (i + 1) xs)))
places_step {X} packet table records xs i x h e =
    let f : Fields → List Page = packet_pages table in
    let before : List Fields = map packet (take i xs) in
    sym (ap (λ (l : List Fields). places_of (records ++ flat_map f l)) (map_more packet xs i x h ∙ ap (λ (y : X). before ++ packet y ∷ []) (sym e))
    ∙ ap (λ (l : List Page). places_of (records ++ l)) (sym (flat_map_more f [] before (packet x)))
    ∙ ap (λ (l : List Page). places_of l) (sym (append_assoc records (flat_map f before) (f (packet x))))
    ∙ map-append (λ (y : Page). y.place) (records ++ flat_map f before) (f (packet x)))
