-- Places that are added to those that earlier rounds named, one after another.
use Rattle.std.proofs.Common.{ℕ, ◌≡◌, ◌<◌, ◌+◌, List, [], ◌∷◌, ◌++◌, length, map, take, get_or, refl, sym, ap, subst, ◌∙◌, append_assoc, None, Bool, not}
use Rattle.std.specs.List.{flat_map}
use Rattle.std.proofs.lemmas.List.{append-nil, map-append, take_more}
use Rattle.std.proofs.lemmas.List.Concat.{flat_map-append}
use Rattle.mig_mem.specs.declared.place.Place.{Place}
use Rattle.mig_mem.specs.RamTable.{RamTable}
use Rattle.mig_mem.specs.Place.{place_at, has_place}
use Rattle.mig_mem.specs.Image.{Page}
use Rattle.mig_mem.specs.PlaceSet.{PlaceSet, places_where, with_place}
use Rattle.mig_mem.proofs.Sets.{where_agree, where_none, has_place-where}
use Rattle.mig_stream.specs.PageRecord.{PageRecord, page_of}
use Rattle.mig_stream.specs.Round.{record_at}
use Rattle.mig_packet.specs.Packet.{Fields}
use Rattle.mig_assemble.specs.Judging.{packet_pages, all_round_pages, places_of}
use Rattle.mig_assemble.specs.NamedPlaces.{HasPlaces, places_in, named_by, left_out, with_places}
use Rattle.mig_assemble.specs.Target.{none_named}
use Rattle.mig_assemble.proofs.Marked.{place_added, places_step}

-- to add a list of places is to add its front and then the rest
pub with_places-append : (s : PlaceSet) (xs ys : List Place) → with_places s (xs ++ ys) ≡ with_places (with_places s xs) ys
with_places-append s [] ys = refl
with_places-append s (x ∷ xs) ys = with_places-append (with_place s x) xs ys

-- the table stays
pub with_places-table : (s : PlaceSet) (xs : List Place) → (with_places s xs).table ≡ s.table
with_places-table s [] = refl
with_places-table s (x ∷ xs) = with_places-table (with_place s x) xs

-- A set that has some places has these, too, once they are added.
pub names_more : (table : RamTable) (places more : List Place) (s : PlaceSet) → HasPlaces table places s → HasPlaces table (places ++ more) (with_places s more)
names_more table places [] s has = subst (λ (l : List Place). HasPlaces table l s) (sym (append-nil places)) has
names_more table places (p ∷ ps) s has =
    subst (λ (l : List Place). HasPlaces table l (with_places (with_place s p) ps)) (append_assoc places (p ∷ []) ps)
    (names_more table (places ++ p ∷ []) ps (with_place s p) (place_added table places s (with_place s p) p has refl))

-- ---- one more

-- the place of one record more
pub record_named : (old now new : PlaceSet) (size : ℕ) (records : List PageRecord) (i : ℕ) (place : Place)
    → now ≡ with_places old (places_of (map (page_of size) (take i records)))
    → i < length records → place ≡ (record_at records i).place → new ≡ with_place now place
    → new ≡ with_places old (places_of (map (page_of size) (take (i + 1) records)))
record_named old now new size records i place so_far lt there put =
    let r : PageRecord = record_at records i in
    let before : List Place = places_of (map (page_of size) (take i records)) in
    put
    ∙ ap (λ (s : PlaceSet). with_place s place) so_far
    ∙ ap (λ (p : Place). with_place (with_places old before) p) there
    ∙ sym (with_places-append old before (r.place ∷ []))
    ∙ ap (λ (l : List Place). with_places old l)
    (sym (ap (λ (l : List PageRecord). places_of (map (page_of size) l)) (take_more records i (record { place = place_at 0 0; content = None }) lt)
    ∙ ap (λ (l : List Page). places_of l) (map-append (page_of size) (take i records) (r ∷ []))
    ∙ map-append (λ (x : Page). x.place) (map (page_of size) (take i records)) (page_of size r ∷ [])))

-- the place at one offset more
pub offset_named : (old now new : PlaceSet) (f : ℕ → Place) (offsets : List ℕ) (i : ℕ) (place : Place) → now ≡ with_places old (map f (take i offsets))
    → i < length offsets → place ≡ f (get_or offsets i 0) → new ≡ with_place now place → new ≡ with_places old (map f (take (i + 1) offsets))
offset_named old now new f offsets i place so_far lt there put =
    let before : List Place = map f (take i offsets) in
    let last : ℕ = get_or offsets i 0 in
    put
    ∙ ap (λ (s : PlaceSet). with_place s place) so_far
    ∙ ap (λ (p : Place). with_place (with_places old before) p) there
    ∙ sym (with_places-append old before (f last ∷ []))
    ∙ ap (λ (l : List Place). with_places old l) (sym (ap (λ (l : List ℕ). map f l) (take_more offsets i 0 lt) ∙ map-append f (take i offsets) (last ∷ [])))

-- the places of one packet more, of a list of values that each have one
pub packet_named : {X : Type 0} (packet : X → Fields) (old now new : PlaceSet) (xs : List X) (i : ℕ) (x : X)
    → i < length xs → x ≡ get_or xs i x → now.table ≡ old.table
    → new ≡ with_places now (places_of (packet_pages now.table (packet x)))
    → now ≡ with_places old (places_of (all_round_pages old.table [] (map packet (take i xs))))
    → new ≡ with_places old (places_of (all_round_pages old.table [] (map packet (take (i + 1) xs))))
packet_named packet old now new xs i x lt is same step so_far =
    let before : List Place = places_of (all_round_pages old.table [] (map packet (take i xs))) in
    let more : List Place = places_of (packet_pages old.table (packet x)) in
    step
    ∙ ap (λ (t : RamTable). with_places now (places_of (packet_pages t (packet x)))) same
    ∙ ap (λ (s : PlaceSet). with_places s more) so_far
    ∙ sym (with_places-append old before more)
    ∙ ap (λ (l : List Place). with_places old l) (places_step packet old.table [] xs i x lt is)

-- ---- a round

-- the places of its records, and then of its packets
pub round_named : (old mid new : PlaceSet) (table : RamTable) (records : List Page) (packets : List Fields) → mid ≡ with_places old (places_of records)
    → new ≡ with_places mid (places_of (all_round_pages table [] packets)) → new ≡ with_places old (places_of (all_round_pages table records packets))
round_named old mid new table records packets first second =
    let brought : List Page = flat_map (packet_pages table) packets in
    second
    ∙ ap (λ (s : PlaceSet). with_places s (places_of brought)) first
    ∙ sym (with_places-append old (places_of records) (places_of brought))
    ∙ ap (λ (l : List Place). with_places old l) (sym (map-append (λ (x : Page). x.place) records brought))

-- no round names a place
pub named_by-nil : (table : RamTable) → none_named table ≡ named_by table []
named_by-nil table = ap (λ (ps : List Place). record { table = table; marked = ps }) (sym (where_none table (has_place []) (λ p here. refl)))

-- one round more
pub named_by-push : (table : RamTable) (rounds : List (List Page)) (round : List Page) (s : PlaceSet) → s ≡ named_by table rounds
    → with_places s (places_of round) ≡ named_by table (rounds ++ round ∷ [])
named_by-push table rounds round s has =
    names_more table (places_in rounds) (places_of round) s has
    ∙ ap (λ (l : List Place). record { table = table; marked = places_where table (has_place l) })
    (sym (flat_map-append places_of rounds (round ∷ []) ∙ ap (λ (l : List Place). places_in rounds ++ l) (append-nil (places_of round))))

-- ---- the pages that none named

-- they are those that the set lacks
pub missing_is : (table : RamTable) (places : List Place) (s : PlaceSet) → HasPlaces table places s
    → length (places_where s.table (λ p. not (has_place s.marked p))) ≡ left_out table places
missing_is table places s has =
    ap (λ (x : PlaceSet). length (places_where x.table (λ p. not (has_place x.marked p)))) has
    ∙ ap (λ (ps : List Place). length ps)
    (where_agree table (λ p. not (has_place (places_where table (has_place places)) p)) (λ p. not (has_place places p))
    (λ p here. ap (λ (b : Bool). not b) (has_place-where table (has_place places) p here)))
