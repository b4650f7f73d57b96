-- Pages of an image, in whatever order: the last page at each place, and that none occurs twice.
use Rattle.std.proofs.Common.{◌≡◌, ◌≢◌, List, [], ◌∷◌, get_or, refl, sym, ap, ◌∙◌, inl, inr, Option, None, cond}
use Rattle.std.specs.Prelude.{flat_map, AllPairs}
use Rattle.std.specs.List.{All}
use Rattle.std.specs.Option.{option_map_or}
use Rattle.std.proofs.lemmas.Bool.{cases_Bool}
use Rattle.std.proofs.lemmas.List.{map-id}
use Rattle.std.proofs.lemmas.List.Elements.{All-contains, All-nil, All-cons}
use Rattle.mig_mem.specs.declared.place.Place.{Place}
use Rattle.mig_mem.specs.Place.{IsAscending, place_eq, place_lt, has_place}
use Rattle.mig_mem.specs.Image.{Page, Image, content_at, pages_of}
use Rattle.mig_mem.specs.Round.{round_of, last_at, with_round}
use Rattle.mig_mem.proofs.Images.{image_agree}
use Rattle.mig_mem.proofs.Members.{map-map, map_agree}
use Rattle.mig_mem.proofs.PlaceOrder.{place_order, places_apart, place_eq-true, place_eq-from, place_lt-ne}
use Rattle.mig_mem.proofs.Rounds.{last_at-round, last_at-round_none}
use Rattle.mig_assemble.specs.Judging.{least, twice, places_of}
use Rattle.mig_assemble.proofs.Bags.{SameBag, bag_trans, bag_map, bag_any}
use Rattle.mig_assemble.proofs.Elements.{all_from}
use Rattle.mig_assemble.proofs.Least.{least_none, least_twice}
use Rattle.mig_assemble.proofs.Once.{each_once, none_twice}
use Rattle.mig_answer.proofs.DealtBags.{bag_same, map-flat_map}

abbrev page_in_image : Image → Place → Page
page_in_image m p = record { place = p; content = content_at m p }

places_of_round : (m : Image) (places : List Place) → places_of (round_of m places) ≡ places
unfolding pages_of
places_of_round m places = map-map (λ (x : Page). x.place) (page_in_image m) places ∙ map-id places

-- the round of all places that are listed is the rounds of what is listed of each, one after
-- another
pub round-flat_map : {X : Type 0} (m : Image) (f : X → List Place) (xs : List X) → round_of m (flat_map f xs) ≡ flat_map (λ x. round_of m (f x)) xs
unfolding pages_of
round-flat_map m f xs = map-flat_map (page_in_image m) f xs

-- a page of a round is that of the image at its place
page_of_round : (m : Image) (places : List Place) → All (λ x. page_in_image m x.place ≡ x) (round_of m places)
unfolding pages_of
page_of_round m [] = All-nil (λ x. page_in_image m x.place ≡ x)
page_of_round m (p ∷ places) = All-cons (λ x. page_in_image m x.place ≡ x) (page_in_image m p) (round_of m places) refl (page_of_round m places)

-- pages that are an image's round, in whatever order, are the round of their places
round_again : (m : Image) (places : List Place) (xs : List Page) → SameBag xs (round_of m places) → round_of m (places_of xs) ≡ xs
unfolding pages_of
round_again m places xs bag =
    map-map (page_in_image m) (λ (x : Page). x.place) xs
    ∙ map_agree (λ (x : Page). page_in_image m x.place) (λ x. x) xs
    (all_from xs (λ x. page_in_image m x.place ≡ x) (λ x h.
    All-contains (λ x. page_in_image m x.place ≡ x) (round_of m places) x (page_of_round m places) (bag.there x h)))
    ∙ map-id xs

-- each place has the same last page there
pub same_last : (m : Image) (places : List Place) (xs : List Page) → SameBag xs (round_of m places) → (p : Place) → last_at p xs ≡ last_at p (round_of m places)
same_last m places xs bag p =
    let has : has_place (places_of xs) p ≡ has_place places p =
    bag_any (λ q. place_eq q p) (places_of xs) places
    (bag_trans (places_of xs) (places_of (round_of m places)) places (bag_map (λ (x : Page). x.place) xs (round_of m places) bag)
    (bag_same (places_of (round_of m places)) places (places_of_round m places))) in
    ap (last_at p) (sym (round_again m places xs bag))
    ∙ elim (cases_Bool (has_place places p)) [
      | inl t ↦ last_at-round m p (places_of xs) (has ∙ t) ∙ sym (last_at-round m p places t)
      | inr f ↦ last_at-round_none m p (places_of xs) (has ∙ f) ∙ sym (last_at-round_none m p places f)
    ]

-- so they leave the same of any memory
pub same_memory : (m : Image) (xs ys : List Page) → ((p : Place) → last_at p xs ≡ last_at p ys) → with_round m xs ≡ with_round m ys
same_memory m xs ys same = image_agree m.table
    (λ p. option_map_or (λ (x : Page). x.content) (last_at p xs) (content_at m p))
    (λ p. option_map_or (λ (x : Page). x.content) (last_at p ys) (content_at m p))
    (λ p _. ap (λ (o : Option Page). option_map_or (λ (x : Page). x.content) o (content_at m p)) (same p))

-- if the places ascend, none occurs twice in any order
pub none_again : (m : Image) (places : List Place) (xs : List Page) → IsAscending places → SameBag xs (round_of m places)
    → AllPairs (λ p q. p ≢ q) (places_of xs)
none_again m places xs ascending bag =
    let same : SameBag (places_of xs) (places_of (round_of m places)) = bag_map (λ (x : Page). x.place) xs (round_of m places) bag in
    let apart : AllPairs (λ p q. p ≢ q) places =
    λ i j d before within e. (let ne = place_lt-ne (get_or places i d) (get_or places j d) (ascending i j d before within) in
    let eq = place_eq-from (get_or places i d) (get_or places j d) e in absurd cc) in
    let none : least place_lt (twice place_eq (places_of xs)) ≡ None =
    least_twice place_lt place_order place_eq places_apart place_eq-true (λ p. place_eq-from p p refl) (places_of xs) (places_of (round_of m places))
    (λ p. same.sums (λ q. cond (place_eq q p) 1 0)) same.there same.back
    ∙ ap (λ (l : List Place). least place_lt (twice place_eq l)) (places_of_round m places)
    ∙ ap (λ (l : List Place). least place_lt l) (none_twice place_eq place_eq-true (λ p. place_eq-from p p refl) places apart) in
    each_once place_eq place_eq-true (λ p. place_eq-from p p refl) (places_of xs) (least_none place_lt (twice place_eq (places_of xs)) none)
