-- The places that the rounds judged so far named.
use Rattle.std.proofs.Common.{ℕ, ◌≡◌, ◌<◌, ◌||◌, Bool, List, [], ◌∷◌, ◌++◌, map, refl, sym, ap, subst, ◌∙◌}
use Rattle.std.specs.Prelude.{IsTrue}
use Rattle.std.specs.List.{flat_map}
use Rattle.std.proofs.lemmas.List.{map-append}
use Rattle.std.proofs.lemmas.List.Folds.{list_any-append}
use Rattle.mig_mem.specs.declared.place.Place.{Place}
use Rattle.mig_mem.specs.RamTable.{RamTable}
use Rattle.mig_mem.specs.Place.{has_place, place_eq}
use Rattle.mig_mem.specs.PlaceSet.{PlaceSet}
use Rattle.mig_mem.specs.Image.{Page, Image}
use Rattle.mig_mem.proofs.Sets.{where_agree, where_none}
use Rattle.mig_packet.specs.Packet.{fields_of}
use Rattle.mig_packet.specs.PacketHead.{as_zeros}
use Rattle.mig_assemble.specs.Judging.{packet_pages, places_of}
use Rattle.mig_assemble.specs.NamedPlaces.{HasPlaces}
use Rattle.mig_assemble.proofs.Bags.{SameBag, bag_map, bag_any}
use Rattle.mig_assemble.proofs.Heads.{same_places}
use Rattle.mig_answer.specs.Texts.{Readings}
use Rattle.mig_answer.specs.Rounds.{places_in_rounds}
use Rattle.mig_answer.specs.MultiLoad.{passes}
use Rattle.mig_answer.proofs.Growing.{ReadingsStay}
use Rattle.mig_in_place.proofs.Heading.{same_head}
use Rattle.mig_in_place.proofs.Waiting.{same_rounds_onto}

-- the first rounds name the same places when more bytes have come
pub named_still : (first : Image) (k : ℕ) (before now : Readings) (s : PlaceSet) → ReadingsStay before now → ((j : ℕ) → j < k → IsTrue (passes j before))
    → HasPlaces first.table (places_in_rounds first.table k before) s → HasPlaces first.table (places_in_rounds first.table k now) s
named_still first k before now s stay passed has =
    subst (λ (l : List (List Page)). HasPlaces first.table (flat_map places_of l) s) (sym (same_rounds_onto first k before now stay passed)) has

-- no round named one
pub none_named : (table : RamTable) (k : ℕ) (readings : Readings) (s : PlaceSet) → k ≡ 0
    → s ≡ record { table = table; marked = [] } → HasPlaces table (places_in_rounds table k readings) s
none_named table k readings s none is =
    subst (λ (n : ℕ). HasPlaces table (places_in_rounds table n readings) s) (sym none)
    (is ∙ ap (λ (ps : List Place). record { table = table; marked = ps }) (sym (where_none table (has_place []) (λ p here. refl))))

-- the same places, in another order
pub has_same : (table : RamTable) (xs ys zs : List Place) (s : PlaceSet) → ((p : Place) → has_place ys p ≡ has_place zs p)
    → HasPlaces table (xs ++ ys) s → HasPlaces table (xs ++ zs) s
has_same table xs ys zs s same has =
    has
    ∙ ap (λ (ps : List Place). record { table = table; marked = ps })
    (where_agree table (has_place (xs ++ ys)) (has_place (xs ++ zs)) (λ p here.
    list_any-append (λ (q : Place). place_eq q p) xs ys
    ∙ ap (λ (b : Bool). has_place xs p || b) (same p)
    ∙ sym (list_any-append (λ (q : Place). place_eq q p) xs zs)))

-- the same pages in another order have the same places
pub bag_places : (xs ys : List Page) (p : Place) → SameBag xs ys → has_place (places_of xs) p ≡ has_place (places_of ys) p
bag_places xs ys p bag = bag_any (λ (q : Place). place_eq q p) (places_of xs) (places_of ys) (bag_map (λ (x : Page). x.place) xs ys bag)

-- a packet's places are its head's
pub heads_places : (table : RamTable) (packets : List (List ℕ))
    → places_of (flat_map (packet_pages table) (map as_zeros packets)) ≡ places_of (flat_map (packet_pages table) (map (fields_of table.page_size) packets))
heads_places table [] = refl
heads_places table (packet ∷ packets) =
    let zeros = as_zeros packet in
    let whole = fields_of table.page_size packet in
    map-append (λ (x : Page). x.place) (packet_pages table zeros) (flat_map (packet_pages table) (map as_zeros packets))
    ∙ ap (λ (l : List Place). l ++ places_of (flat_map (packet_pages table) (map as_zeros packets)))
    (same_places table zeros whole (same_head table.page_size packet))
    ∙ ap (λ (l : List Place). places_of (packet_pages table whole) ++ l) (heads_places table packets)
    ∙ sym (map-append (λ (x : Page). x.place) (packet_pages table whole) (flat_map (packet_pages table) (map (fields_of table.page_size) packets)))
