-- A round that isn't refused: where its pages lie, and what it leaves.
use Rattle.std.proofs.Common.{ℕ, ◌≡◌, ◌+◌, ◌/◌, ◌∙◌, List, [], ◌∷◌, ◌++◌, length, map, refl, sym, ap, subst, inl, inr, Option, Some, None, Bool, true, false}
use Rattle.std.specs.Prelude.{nat_lt, nat_eq}
use Rattle.std.specs.Option.{option_and_then, option_map, is_some, unwrap_or}
use Rattle.std.specs.List.{All, filter, flat_map}
use Rattle.std.proofs.lemmas.Bool.{cases_Bool, cond_both, cond-true, cond-false}
use Rattle.std.proofs.lemmas.Option.{same_Some}
use Rattle.std.proofs.lemmas.List.{map-append, length-map, get_or-map}
use Rattle.std.proofs.lemmas.List.Elements.{All-nil, All-cons, All-head, All-tail, All-append, All-map, All-weaker, All-same, filter_passes}
use Rattle.mig_mem.specs.declared.place.Place.{Place}
use Rattle.mig_mem.specs.First.{first_some}
use Rattle.mig_mem.specs.RamTable.{RamTable, block_of}
use Rattle.mig_mem.specs.Place.{IsPlace, place_at, place_lt, place_eq}
use Rattle.mig_mem.specs.Image.{Page, Image, zero_page}
use Rattle.mig_mem.specs.Round.{with_round}
use Rattle.mig_mem.specs.PlaceSet.{PlaceSet}
use Rattle.mig_mem.proofs.Members.{All-flat_map, map-map}
use Rattle.mig_mem.proofs.Lists.{or_none}
use Rattle.mig_stream.specs.Round.{RoundOfRecords}
use Rattle.mig_stream.proofs.FoundList.{no_some}
use Rattle.mig_packet.specs.declared.packet.Packet.{Packet}
use Rattle.mig_packet.specs.Packet.{NormalPage, Fields}
use Rattle.mig_packet.specs.Lent.{fields}
use Rattle.mig_assemble.specs.declared.fault.RoundFault.{RoundFault}
use Rattle.mig_assemble.specs.declared.fault.RoundFault.TheVariants.{Foreign, Doubled, Missing, DoublePage}
use Rattle.mig_assemble.specs.Judging.{least, lesser, twice, absent, numbers, offsets, place_fault, page_in, pages_in}
use Rattle.mig_assemble.specs.Judging.{packet_pages, least_place_fault, all_round_pages, places_of, refusal}
use Rattle.mig_assemble.specs.Target.{LoadTarget, pages_of_round, after_round}
use Rattle.mig_assemble.specs.NamedPlaces.{with_places}
use Rattle.mig_assemble.proofs.Putting.{put_after}
use Rattle.mig_assemble.proofs.Naming.{round_named}
use Rattle.mig_assemble.proofs.PacketParts.{right_offsets, unknown_has_none}
use Rattle.mig_assemble.proofs.Least.{least_none}

-- ---- what a lawful round says of each packet

lesser_has : {X : Type 0} (lt : X → X → Bool) (P : X → Type 0) (x : X) (o : Option X) → P x → ((y : X) → o ≡ Some y → P y) → P (lesser lt x o)
lesser_has lt P x None here rest = here
lesser_has lt P x (Some y) here rest = cond_both (lt y x) y x P (λ _. rest y refl) (λ _. here)

least_has : {X : Type 0} (lt : X → X → Bool) (P : X → Type 0) (xs : List X) (m : X) → All P xs → least lt xs ≡ Some m → P m
least_has lt P [] m all e = absurd cc
least_has {X} lt P (x ∷ xs) m all e =
    subst P (same_Some (lesser lt x (least lt xs)) m e)
    (lesser_has lt P x (least lt xs) (All-head P x xs all) (λ y is. least_has lt P xs y (All-tail P x xs all) is))

none_kept : {X : Type 0} (p : X → Bool) (xs : List X) → filter p xs ≡ [] → All (λ x. p x ≡ false) xs
none_kept p [] e = All-nil (λ x. p x ≡ false)
none_kept {X} p (x ∷ xs) e = elim (cases_Bool (p x)) [
  | inl t ↦ absurd (let some : x ∷ filter p xs ≡ [] = sym (cond-true (p x) (x ∷ filter p xs) (filter p xs) t) ∙ e in cc)
  | inr f ↦ All-cons (λ x. p x ≡ false) x xs f (none_kept p xs (sym (cond-false (p x) (x ∷ filter p xs) (filter p xs) f) ∙ e))
]

abbrev lies_wrong : RamTable → Fields → Bool
lies_wrong table packet = is_some (place_fault table packet)

none_wrong : (table : RamTable) (packets : List Fields) → least_place_fault table packets ≡ None → All (λ p. place_fault table p ≡ None) packets
none_wrong table packets e =
    All-weaker (λ p. lies_wrong table p ≡ false) (λ p. place_fault table p ≡ None) (λ p f. no_some (place_fault table p) f) packets
    (none_kept (lies_wrong table) packets (go (least (λ p q. nat_lt p.number q.number) (filter (lies_wrong table) packets)) refl e))
  where
    go : (o : Option Fields) → least (λ p q. nat_lt p.number q.number) (filter (lies_wrong table) packets) ≡ o
        → option_and_then (place_fault table) o ≡ None → filter (lies_wrong table) packets ≡ []
    go None is none = least_none (λ p q. nat_lt p.number q.number) (filter (lies_wrong table) packets) is
    go (Some q) is none =
        let wrong : is_some (place_fault table q) ≡ true =
        least_has (λ p q. nat_lt p.number q.number) (λ p. lies_wrong table p ≡ true) (filter (lies_wrong table) packets) q
        (filter_passes (lies_wrong table) packets) is in
        absurd (let no : is_some (place_fault table q) ≡ false = ap (λ (o : Option RoundFault). is_some o) none in cc)

-- THE PAGES OF A LAWFUL ROUND LIE RIGHT: no packet has a fault of its places.
pub lawful_lies_right : (table : RamTable) (base : ℕ) (records : List Page) (packets : List Fields) → refusal table base records packets ≡ None
    → All (λ p. place_fault table p ≡ None) packets
lawful_lies_right table base records packets e =
    let foreign : Option RoundFault = option_map Foreign (least nat_lt (filter (λ n. nat_lt n base) (numbers packets))) in
    let doubled : Option RoundFault = option_map Doubled (least nat_lt (twice nat_eq (numbers packets))) in
    let missing : Option RoundFault = option_map Missing (least nat_lt (absent base (numbers packets))) in
    let last : Option RoundFault = option_map DoublePage (least place_lt (twice place_eq (places_of (all_round_pages table records packets)))) in
    let after_foreign = or_none foreign (first_some (doubled ∷ (missing ∷ (least_place_fault table packets ∷ (last ∷ []))))) e in
    let after_doubled = or_none doubled (first_some (missing ∷ (least_place_fault table packets ∷ (last ∷ [])))) after_foreign.1 in
    let after_missing = or_none missing (first_some (least_place_fault table packets ∷ (last ∷ []))) after_doubled.1 in
    none_wrong table packets (or_none (least_place_fault table packets) (first_some (last ∷ [])) after_missing.1).0

-- what is true of each element's value is true of each value in the list of them
pub all_of_map : {X Y : Type 0} (P : Y → Type 0) (f : X → Y) (xs : List X) → All P (map f xs) → All (λ x. P (f x)) xs
all_of_map P f xs all k d lt = subst P (get_or-map f xs k d (f d) lt) (all k (f d) (rw (length-map xs f) lt))

-- the same of packets that lend their bytes
pub each_lies_right : (table : RamTable) (base : ℕ) (records : List Page) (packets : List Packet) → refusal table base records (map fields packets) ≡ None
    → All (λ p. place_fault table (fields p) ≡ None) packets
each_lies_right table base records packets e =
    all_of_map (λ p. place_fault table p ≡ None) fields packets (lawful_lies_right table base records (map fields packets) e)

-- ---- where the pages lie

-- the places of the pages that a packet brings into a block are those of its offsets
places_in : (table : RamTable) (packet : Fields) (b : ℕ)
    → places_of (pages_in table packet b) ≡ map (λ offset. place_at b (offset / table.page_size)) (offsets packet)
places_in table packet b =
    let place : Page → Place = λ x. x.place in
    let at : ℕ → Place = λ offset. place_at b (offset / table.page_size) in
    let normal : NormalPage → Page = λ page. page_in table b page.offset page.content in
    let zeros : ℕ → Page = λ offset. page_in table b offset (zero_page table.page_size) in
    map-append place (map normal packet.normal) (map zeros packet.zero)
    ∙ ap (λ (l : List Place). l ++ map place (map zeros packet.zero))
    (map-map place normal packet.normal ∙ sym (map-map at (λ (page : NormalPage). page.offset) packet.normal))
    ∙ ap (λ (l : List Place). map at (map (λ (page : NormalPage). page.offset) packet.normal) ++ l) (map-map place zeros packet.zero)
    ∙ sym (map-append at (map (λ (page : NormalPage). page.offset) packet.normal) packet.zero)

packet_in_table : (table : RamTable) (packet : Fields) → place_fault table packet ≡ None → All (λ x. IsPlace table x.place) (packet_pages table packet)
packet_in_table table packet right = all_of_map (IsPlace table) (λ (x : Page). x.place) (packet_pages table packet) (go (block_of table.blocks packet.id) refl)
  where
    go : (o : Option ℕ) → block_of table.blocks packet.id ≡ o → All (IsPlace table) (places_of (packet_pages table packet))
    go None unknown = All-same (IsPlace table) (places_of (packet_pages table packet)) [] (ap places_of (unknown_has_none table packet right unknown))
        (All-nil (IsPlace table))
    go (Some b) known =
        let at : ℕ → Place = λ offset. place_at b (offset / table.page_size) in
        All-same (IsPlace table) (places_of (packet_pages table packet)) (map at (offsets packet))
        (ap (λ (o : Option ℕ). places_of (pages_in table packet (unwrap_or o 0))) known ∙ places_in table packet b)
        (All-map (IsPlace table) at (offsets packet) (right_offsets table packet b right known))

-- THE PAGES OF A LAWFUL ROUND LIE IN THE TABLE
pub lawful_in_table : (table : RamTable) (base : ℕ) (records : List Page) (packets : List Fields) → All (IsPlace table) (places_of records)
    → refusal table base records packets ≡ None → All (IsPlace table) (places_of (all_round_pages table records packets))
lawful_in_table table base records packets first lawful =
    let brought : List Page = flat_map (packet_pages table) packets in
    All-same (IsPlace table) (places_of (records ++ brought)) (places_of records ++ places_of brought) (map-append (λ (x : Page). x.place) records brought)
    (All-append (IsPlace table) (places_of records) (places_of brought) first
    (All-map (IsPlace table) (λ (x : Page). x.place) brought
    (All-flat_map (λ x. IsPlace table x.place) (packet_pages table) packets
    (All-weaker (λ p. place_fault table p ≡ None) (λ p. All (λ x. IsPlace table x.place) (packet_pages table p)) (packet_in_table table) packets
    (lawful_lies_right table base records packets lawful)))))

-- ---- what it leaves

-- a target whose records and then packets were put into its memory and its named places,
-- with one round more and as many packets more, is the target after that round
pub applied : (t s : LoadTarget) (m : Image) (n : PlaceSet) (round : RoundOfRecords) (packets gathered : List Packet) → packets ≡ gathered
    → s.memory ≡ with_round t.memory (pages_of_round round) → s.named ≡ with_places t.named (places_of (pages_of_round round)) → s.named.table ≡ s.memory.table
    → s.rounds ≡ t.rounds + 1 → s.base ≡ t.base
    → m ≡ with_round s.memory (flat_map (packet_pages s.memory.table) (map fields packets))
    → n ≡ with_places s.named (places_of (all_round_pages s.named.table [] (map fields packets)))
    → record { memory = m; named = n; rounds = s.rounds; base = s.base + length packets } ≡ after_round t round (map fields gathered)
applied t s m n round packets gathered same memory names table rounds base put name =
    let all : m ≡ with_round t.memory (all_round_pages t.memory.table (pages_of_round round) (map fields gathered)) =
    put
    ∙ ap (λ (x : Image). with_round x (flat_map (packet_pages x.table) (map fields packets))) memory
    ∙ put_after t.memory (pages_of_round round) (flat_map (packet_pages t.memory.table) (map fields packets))
    ∙ ap (λ (ps : List Packet). with_round t.memory (all_round_pages t.memory.table (pages_of_round round) (map fields ps))) same in
    let here : n ≡ with_places t.named (places_of (all_round_pages t.memory.table (pages_of_round round) (map fields gathered))) =
    round_named t.named s.named n t.memory.table (pages_of_round round) (map fields gathered) names
    (name
    ∙ ap (λ (x : RamTable). with_places s.named (places_of (all_round_pages x [] (map fields packets)))) (table ∙ ap (λ (x : Image). x.table) memory)
    ∙ ap (λ (ps : List Packet). with_places s.named (places_of (all_round_pages t.memory.table [] (map fields ps)))) same) in
    let count : length packets ≡ length (map fields gathered) = ap (λ (ps : List Packet). length ps) same ∙ sym (length-map gathered fields) in
    rw (all, here, rounds, base, count) refl
