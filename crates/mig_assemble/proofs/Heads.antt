-- A round is judged by its packets' heads.
use Rattle.std.proofs.Common.{ℕ, ◌≡◌, List, [], ◌∷◌, ◌++◌, length, map, refl, sym, ap, ◌∙◌, Option, Some, None, Bool, inl, inr}
use Rattle.std.specs.Prelude.{◌==◌, filter, flat_map, nat_lt, position, if◌then◌else◌, ⊤}
use Rattle.std.specs.List.{AllZip}
use Rattle.std.specs.Option.{option_map, option_and_then, is_some, unwrap_or}
use Rattle.std.proofs.lemmas.Bool.{cases_Bool}
use Rattle.std.proofs.lemmas.List.{map-append}
use Rattle.mig_mem.specs.declared.place.Place.{Place}
use Rattle.mig_mem.specs.RamTable.{RamTable, block, block_of}
use Rattle.mig_mem.specs.Place.{place_eq, place_lt}
use Rattle.mig_mem.specs.Image.{Page}
use Rattle.mig_packet.specs.Packet.{Fields}
use Rattle.mig_assemble.specs.declared.fault.RoundFault.{RoundFault}
use Rattle.mig_assemble.specs.declared.fault.RoundFault.TheVariants.{UnknownBlock, Offset}
use Rattle.mig_assemble.specs.Judging.{offsets, is_outside, offset_fault, place_fault, numbers, least, lesser, twice, least_misplaced, least_place_fault}
use Rattle.mig_assemble.specs.Judging.{packet_pages, places_of}
use Rattle.mig_assemble.specs.Sorted.{number_refusal}
use Rattle.mig_assemble.specs.Arrivals.{SameHead, HeadsAreJudged}
use Rattle.mig_assemble.proofs.PacketPlaces.{place_of, places-in}
use Rattle.mig_assemble.proofs.Parts.{double, refusal-parts}

-- ---- one packet

-- what is wrong with where pages lie, by number, offsets and block
abbrev fault_by : RamTable → ℕ → List ℕ → Option ℕ → Option RoundFault
fault_by table n os None = Some (UnknownBlock n)
fault_by table n os (Some b) = option_map (Offset n) (position (is_outside table.page_size (block table.blocks b).pages) os)

offset_by : (table : RamTable) (p : Fields) (o : Option ℕ) → offset_fault table p o ≡ fault_by table p.number (offsets p) o
offset_by table p None = refl
offset_by table p (Some b) = refl

abbrev head_fault : RamTable → ℕ → List ℕ → List ℕ → Option RoundFault
head_fault table n id os = if length os == 0 then None else fault_by table n os (block_of table.blocks id)

place_by : (table : RamTable) (p : Fields) → place_fault table p ≡ head_fault table p.number p.id (offsets p)
place_by table p = ap (λ (f : Option RoundFault). if length (offsets p) == 0 then None else f) (offset_by table p (block_of table.blocks p.id))

-- packets with one head have the same fault of places
pub same_fault : (table : RamTable) (p q : Fields) → SameHead p q → place_fault table p ≡ place_fault table q
same_fault table p q same =
    place_by table p
    ∙ ap (λ (n : ℕ). head_fault table n p.id (offsets p)) same.same_number
    ∙ ap (λ (id : List ℕ). head_fault table q.number id (offsets p)) same.same_id
    ∙ ap (λ (os : List ℕ). head_fault table q.number q.id os) same.same_offsets
    ∙ sym (place_by table q)

-- packets with one head name the same places
pub same_places : (table : RamTable) (p q : Fields) → SameHead p q → places_of (packet_pages table p) ≡ places_of (packet_pages table q)
same_places table p q same =
    places-in table p (unwrap_or (block_of table.blocks p.id) 0)
    ∙ ap (λ (id : List ℕ). map (place_of table (unwrap_or (block_of table.blocks id) 0)) (offsets p)) same.same_id
    ∙ ap (λ (os : List ℕ). map (place_of table (unwrap_or (block_of table.blocks q.id) 0)) os) same.same_offsets
    ∙ sym (places-in table q (unwrap_or (block_of table.blocks q.id) 0))

-- ---- all of them

same_numbers : (ps qs : List Fields) → AllZip SameHead ps qs → numbers ps ≡ numbers qs
same_numbers [] [] same = refl
same_numbers [] (q ∷ qs) same = absurd same
same_numbers (p ∷ ps) [] same = absurd same
same_numbers (p ∷ ps) (q ∷ qs) same = ap (λ (n : ℕ). n ∷ numbers ps) same.0.same_number ∙ ap (λ (ns : List ℕ). q.number ∷ ns) (same_numbers ps qs same.1)

same_page_places : (table : RamTable) (ps qs : List Fields) → AllZip SameHead ps qs
    → places_of (flat_map (packet_pages table) ps) ≡ places_of (flat_map (packet_pages table) qs)
same_page_places table [] [] same = refl
same_page_places table [] (q ∷ qs) same = absurd same
same_page_places table (p ∷ ps) [] same = absurd same
same_page_places table (p ∷ ps) (q ∷ qs) same =
    map-append (λ (x : Page). x.place) (packet_pages table p) (flat_map (packet_pages table) ps)
    ∙ ap (λ (l : List Place). l ++ places_of (flat_map (packet_pages table) ps)) (same_places table p q same.0)
    ∙ ap (λ (l : List Place). places_of (packet_pages table q) ++ l) (same_page_places table ps qs same.1)
    ∙ sym (map-append (λ (x : Page). x.place) (packet_pages table q) (flat_map (packet_pages table) qs))

same_double : (table : RamTable) (records : List Page) (ps qs : List Fields) → AllZip SameHead ps qs → double table records ps ≡ double table records qs
same_double table records ps qs same = ap (λ (l : List Place). least place_lt (twice place_eq l))
    (map-append (λ (x : Page). x.place) records (flat_map (packet_pages table) ps)
    ∙ ap (λ (l : List Place). places_of records ++ l) (same_page_places table ps qs same)
    ∙ sym (map-append (λ (x : Page). x.place) records (flat_map (packet_pages table) qs)))

-- ---- the one whose pages are misplaced

abbrev lt : Fields → Fields → Bool
lt p q = nat_lt p.number q.number

abbrev is_bad : RamTable → Fields → Bool
is_bad table p = is_some (place_fault table p)

same_bad : (table : RamTable) (ps qs : List Fields) → AllZip SameHead ps qs → AllZip SameHead (filter (is_bad table) ps) (filter (is_bad table) qs)
same_bad table [] [] same = tt
same_bad table [] (q ∷ qs) same = absurd same
same_bad table (p ∷ ps) [] same = absurd same
same_bad table (p ∷ ps) (q ∷ qs) same =
    let alike : is_bad table p ≡ is_bad table q = ap (λ (o : Option RoundFault). is_some o) (same_fault table p q same.0) in
    elim (cases_Bool (is_bad table q)) [
      | inl t ↦ rw (alike ∙ t, t) (same.0, same_bad table ps qs same.1)
      | inr f ↦ rw (alike ∙ f, f) (same_bad table ps qs same.1)
    ]

-- both or neither
abbrev SameBoth : Option Fields → Option Fields → Type 0
SameBoth None None = ⊤
SameBoth (Some p) (Some q) = SameHead p q
SameBoth x y = ⊥

same_lesser : (p q : Fields) (x y : Option Fields) → SameHead p q → SameBoth x y → SameHead (lesser lt p x) (lesser lt q y)
same_lesser p q None None same both = same
same_lesser p q None (Some y) same both = absurd both
same_lesser p q (Some x) None same both = absurd both
same_lesser p q (Some x) (Some y) same both =
    let alike : nat_lt x.number p.number ≡ nat_lt y.number q.number =
    ap (λ (n : ℕ). nat_lt n p.number) both.same_number ∙ ap (λ (n : ℕ). nat_lt y.number n) same.same_number in
    elim (cases_Bool (nat_lt y.number q.number)) [ inl t ↦ rw (alike ∙ t, t) both | inr f ↦ rw (alike ∙ f, f) same ]

same_least : (ps qs : List Fields) → AllZip SameHead ps qs → SameBoth (least lt ps) (least lt qs)
same_least [] [] same = tt
same_least [] (q ∷ qs) same = absurd same
same_least (p ∷ ps) [] same = absurd same
same_least (p ∷ ps) (q ∷ qs) same = same_lesser p q (least lt ps) (least lt qs) same.0 (same_least ps qs same.1)

same_told : (table : RamTable) (x y : Option Fields) → SameBoth x y → option_and_then (place_fault table) x ≡ option_and_then (place_fault table) y
same_told table None None both = refl
same_told table None (Some y) both = absurd both
same_told table (Some x) None both = absurd both
same_told table (Some x) (Some y) both = same_fault table x y both

same_least_fault : (table : RamTable) (ps qs : List Fields) → AllZip SameHead ps qs → least_place_fault table ps ≡ least_place_fault table qs
same_least_fault table ps qs same = same_told table (least_misplaced table ps) (least_misplaced table qs)
    (same_least (filter (is_bad table) ps) (filter (is_bad table) qs) (same_bad table ps qs same))

-- ---- the law

-- a round is judged by the heads of its packets alone
pub heads_judged : HeadsAreJudged
heads_judged table base records ps qs same =
    let n = ap (number_refusal base) (same_numbers ps qs same) in
    let f = same_least_fault table ps qs same in
    let d = same_double table records ps qs same in
    refusal-parts table base records ps ∙ rw (n, f, d) refl ∙ sym (refusal-parts table base records qs)
