-- A round's refusal, and the memory that it leaves, don't depend on the order of its packets.
use Rattle.std.proofs.Common.{ℕ, ◌≡◌, List, [], ◌∷◌, length, refl, sym, ap, ◌∙◌, inl, inr, Option, Some, None, Bool, true, not, cond, subst}
use Rattle.std.specs.Prelude.{◌==◌, Contains, filter, flat_map, nat_lt, nat_eq, if◌then◌else◌}
use Rattle.std.specs.List.{range_with_len, list_any}
use Rattle.std.specs.Option.{option_map_or, option_or, option_and_then, is_some}
use Rattle.std.proofs.lemmas.Bool.{cases_Bool, cond-true, cond-false, eq-eqb, eqb-true}
use Rattle.std.proofs.lemmas.Option.{same_Some}
use Rattle.std.proofs.lemmas.List.Elements.{filter_agree}
use Rattle.std.proofs.lemmas.List.Sorted.{IsStrictWeakOrder-by_number}
use Rattle.mig_mem.specs.declared.place.Place.{Place}
use Rattle.mig_mem.specs.RamTable.{RamTable}
use Rattle.mig_mem.specs.Place.{place_eq, place_lt}
use Rattle.mig_mem.specs.Image.{Page, content_at}
use Rattle.mig_mem.specs.Round.{last_at}
use Rattle.mig_mem.proofs.Images.{image_agree}
use Rattle.mig_mem.proofs.PlaceOrder.{place_order, places_apart, place_eq-true, place_eq-from}
use Rattle.mig_mem.proofs.Rounds.{last_at-nil, last_at-cons}
use Rattle.mig_packet.specs.Packet.{Fields}
use Rattle.mig_assemble.specs.declared.fault.RoundFault.{RoundFault}
use Rattle.mig_assemble.specs.Judging.{least, twice, absent, numbers, place_fault, least_place_fault, packet_pages, all_round_pages, places_of, refusal}
use Rattle.mig_assemble.specs.Law.{PacketsComeInAnyOrder}
use Rattle.mig_assemble.proofs.Elements.{contains_cases, contains_here, contains_later, contains_none, filter_contains}
use Rattle.mig_assemble.proofs.Bags.{SameBag, bag_permutation, bag_map, bag_flat_map, bag_behind, bag_length, bag_any}
use Rattle.mig_assemble.specs.Sorted.{number_refusal}
use Rattle.mig_assemble.proofs.Parts.{page_refusal, refusal-parts, numbers_once, lawful_parts}
use Rattle.mig_assemble.proofs.Least.{nat_order, numbers_apart, least_none, least_filter, least_twice, own_key}

-- ---- numbers

same_foreign : (base : ℕ) (ns ms : List ℕ) → SameBag ns ms → least nat_lt (filter (λ n. nat_lt n base) ns) ≡ least nat_lt (filter (λ n. nat_lt n base) ms)
same_foreign base ns ms bag =
    least_filter nat_lt nat_order (λ n. nat_lt n base) (λ n. nat_lt n base) (λ _. refl) ns ms (λ x y _ _. numbers_apart x y) bag.there bag.back

same_doubled : (ns ms : List ℕ) → SameBag ns ms → least nat_lt (twice nat_eq ns) ≡ least nat_lt (twice nat_eq ms)
same_doubled ns ms bag =
    least_twice nat_lt nat_order nat_eq numbers_apart (λ a b. eqb-true a b) (λ a. eq-eqb a a refl) ns ms
    (λ x. bag.sums (λ m. cond (nat_eq m x) 1 0)) bag.there bag.back

same_missing : (base : ℕ) (ns ms : List ℕ) → SameBag ns ms → absent base ns ≡ absent base ms
same_missing base ns ms bag =
    filter_agree (λ n. not (list_any (λ m. m == n) ns)) (λ n. not (list_any (λ m. m == n) ms))
    (λ n. ap not (bag_any (λ m. m == n) ns ms bag)) (range_with_len base (length ns))
    ∙ ap (λ (k : ℕ). filter (λ n. not (list_any (λ m. m == n) ms)) (range_with_len base k)) (bag_length ns ms bag)

-- the numbers of a round are judged the same in whatever order they came
pub number_refusal_bag : (base : ℕ) (ns ms : List ℕ) → SameBag ns ms → number_refusal base ns ≡ number_refusal base ms
number_refusal_bag base ns ms bag = rw (same_foreign base ns ms bag, same_doubled ns ms bag, same_missing base ns ms bag) refl

-- ---- misplaced packets

same_place_fault : (table : RamTable) (ps qs : List Fields) → SameBag ps qs → least nat_lt (twice nat_eq (numbers qs)) ≡ None
    → least_place_fault table ps ≡ least_place_fault table qs
same_place_fault table ps qs bag none =
    let bad : Fields → Bool = λ q. is_some (place_fault table q) in
    ap (option_and_then (place_fault table)) (least_filter (λ p q. nat_lt p.number q.number) (IsStrictWeakOrder-by_number (λ (q : Fields). q.number))
    bad bad (λ _. refl) ps qs
    (λ x y h k a b. own_key (λ (q : Fields). q.number) nat_eq eq-eqb qs (least_none nat_lt (twice nat_eq (numbers qs)) none) x y
    (filter_contains bad qs x h).0 (filter_contains bad qs y k).0 (numbers_apart x.number y.number a b))
    bag.there bag.back)

-- ---- pages

same_pages : (table : RamTable) (records : List Page) (ps qs : List Fields) → SameBag ps qs
    → SameBag (all_round_pages table records ps) (all_round_pages table records qs)
same_pages table records ps qs bag =
    bag_behind records (flat_map (packet_pages table) ps) (flat_map (packet_pages table) qs) (bag_flat_map (packet_pages table) ps qs bag)

-- pages in another order have the same lowest place that is named twice
pub same_double : (xs ys : List Page) → SameBag xs ys → least place_lt (twice place_eq (places_of xs)) ≡ least place_lt (twice place_eq (places_of ys))
same_double xs ys bag =
    let places : SameBag (places_of xs) (places_of ys) = bag_map (λ (x : Page). x.place) xs ys bag in
    least_twice place_lt place_order place_eq places_apart (λ a b. place_eq-true a b) (λ a. place_eq-from a a refl) (places_of xs) (places_of ys)
    (λ p. places.sums (λ y. cond (place_eq y p) 1 0)) places.there places.back

-- ---- the refusal

-- a round is judged the same in whatever order its packets came
pub refusal_bag : (table : RamTable) (base : ℕ) (records : List Page) (ps qs : List Fields) → SameBag ps qs
    → refusal table base records ps ≡ refusal table base records qs
refusal_bag table base records ps qs bag =
    refusal-parts table base records ps ∙ go (number_refusal base (numbers qs)) refl ∙ sym (refusal-parts table base records qs)
  where
    same : number_refusal base (numbers ps) ≡ number_refusal base (numbers qs)
    same = number_refusal_bag base (numbers ps) (numbers qs) (bag_map (λ (q : Fields). q.number) ps qs bag)

    same_page_refusal : number_refusal base (numbers qs) ≡ None → page_refusal table records ps ≡ page_refusal table records qs
    same_page_refusal none =
        let places = same_place_fault table ps qs bag (numbers_once base (numbers qs) none) in
        let doubles = same_double (all_round_pages table records ps) (all_round_pages table records qs) (same_pages table records ps qs bag) in
        rw (places, doubles) refl

    go : (o : Option RoundFault) → number_refusal base (numbers qs) ≡ o
        → option_or (number_refusal base (numbers ps)) (page_refusal table records ps)
        ≡ option_or (number_refusal base (numbers qs)) (page_refusal table records qs)
    go (Some f) e = rw (same ∙ e, e) refl
    go None e = rw (same ∙ e, e) (same_page_refusal e)

-- ---- the memory

-- the last page at a place is one of the pages, and is at the place
has_last : (p : Place) (xs : List Page) (c : Page) → last_at p xs ≡ Some c → Contains xs c × (c.place ≡ p)
has_last p [] c e = let no : None ≡ Some c = sym (last_at-nil p) ∙ e in absurd cc
has_last p (y ∷ xs) c e = go (λ q. has_last p xs c q) (last_at p xs) refl (sym (last_at-cons p y xs) ∙ e)
  where
    go : (last_at p xs ≡ Some c → Contains xs c × (c.place ≡ p)) → (o : Option Page) → last_at p xs ≡ o
        → option_or (last_at p xs) (if place_eq y.place p then Some y else None) ≡ Some c → Contains (y ∷ xs) c × (c.place ≡ p)
    go ih' (Some d) is e =
        let found : option_or (Some d) (if place_eq y.place p then Some y else None) ≡ Some c =
        subst (λ (o : Option Page). option_or o (if place_eq y.place p then Some y else None) ≡ Some c) is e in
        let ih = ih' (is ∙ found) in (contains_later y xs c ih.0, ih.1)
    go ih' None is e =
        let found : (if place_eq y.place p then Some y else None) ≡ Some c =
        subst (λ (o : Option Page). option_or o (if place_eq y.place p then Some y else None) ≡ Some c) is e in
        elim (cases_Bool (place_eq y.place p)) [
          | inl t ↦
              let same : y ≡ c = same_Some y c (sym (cond-true (place_eq y.place p) (Some y) None t) ∙ found) in
              (subst (λ (z : Page). Contains (y ∷ xs) z) same (contains_here y xs), ap (λ (z : Page). z.place) (sym same) ∙ place_eq-true y.place p t)
          | inr f ↦ let no : None ≡ Some c = sym (cond-false (place_eq y.place p) (Some y) None f) ∙ found in absurd cc
        ]

last_some : (xs : List Page) (x : Page) → Contains xs x → (c : Page) × (last_at x.place xs ≡ Some c)
last_some [] x h = contains_none x h
last_some (y ∷ xs) x h = elim (contains_cases y xs x h) [
  | inl e ↦ go (last_at x.place xs) refl (place_eq-from y.place x.place (ap (λ (z : Page). z.place) e))
  | inr later ↦
      let ih = last_some xs x later in
      (ih.0, last_at-cons x.place y xs ∙ ap (λ (o : Option Page). option_or o (if place_eq y.place x.place then Some y else None)) ih.1)
]
  where
    go : (o : Option Page) → last_at x.place xs ≡ o → place_eq y.place x.place ≡ true → (c : Page) × (last_at x.place (y ∷ xs) ≡ Some c)
    go (Some d) is t = (d, last_at-cons x.place y xs ∙ ap (λ (o : Option Page). option_or o (if place_eq y.place x.place then Some y else None)) is)
    go None is t = (
      y,
      last_at-cons x.place y xs ∙ ap (λ (o : Option Page). option_or o (if place_eq y.place x.place then Some y else None)) is
          ∙ cond-true (place_eq y.place x.place) (Some y) None t,
    )

-- the order of pages doesn't matter where no place occurs twice
pub last_at-same : (p : Place) (xs ys : List Page) → SameBag xs ys → twice place_eq (places_of ys) ≡ [] → last_at p xs ≡ last_at p ys
last_at-same p xs ys bag once = go (last_at p xs) refl (last_at p ys) refl
  where
    go : (a : Option Page) → last_at p xs ≡ a → (b : Option Page) → last_at p ys ≡ b → last_at p xs ≡ last_at p ys
    go None ea None eb = ea ∙ sym eb
    go None ea (Some d) eb =
        let y = has_last p ys d eb in
        let s = last_some xs d (bag.back d y.0) in
        let e : last_at p xs ≡ Some s.0 = subst (λ (q : Place). last_at q xs ≡ Some s.0) y.1 s.1 in absurd cc
    go (Some c) ea None eb =
        let x = has_last p xs c ea in
        let s = last_some ys c (bag.there c x.0) in
        let e : last_at p ys ≡ Some s.0 = subst (λ (q : Place). last_at q ys ≡ Some s.0) x.1 s.1 in absurd cc
    go (Some c) ea (Some d) eb =
        let x = has_last p xs c ea in
        let y = has_last p ys d eb in
        ea ∙ ap (λ (z : Page). Some z) (own_key (λ (x : Page). x.place) place_eq place_eq-from ys once c d (bag.there c x.0) y.0 (x.1 ∙ sym y.1)) ∙ sym eb

-- in a lawful round no place occurs twice
pub lawful_once : (table : RamTable) (base : ℕ) (records : List Page) (ps : List Fields) → refusal table base records ps ≡ None
    → twice place_eq (places_of (all_round_pages table records ps)) ≡ []
lawful_once table base records ps lawful =
    least_none place_lt (twice place_eq (places_of (all_round_pages table records ps))) (lawful_parts table base records ps lawful).2

-- a round is the same in whatever order its packets come
pub any_order : PacketsComeInAnyOrder
any_order table base records ps qs perm =
    let bag : SameBag ps qs = bag_permutation ps qs perm in
    let xs : List Page = all_round_pages table records ps in
    let ys : List Page = all_round_pages table records qs in
    let same : refusal table base records ps ≡ refusal table base records qs = refusal_bag table base records ps qs bag in
    record {
      same_refusal = same;
      same_memory = λ lawful m. image_agree m.table
          (λ p. option_map_or (λ (x : Page). x.content) (last_at p xs) (content_at m p))
          (λ p. option_map_or (λ (x : Page). x.content) (last_at p ys) (content_at m p))
          (λ p _. ap (λ (o : Option Page). option_map_or (λ (x : Page). x.content) o (content_at m p))
          (last_at-same p xs ys (same_pages table records ps qs bag) (lawful_once table base records qs (sym same ∙ lawful))));
    }
