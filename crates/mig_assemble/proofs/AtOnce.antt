-- A complete round that is judged as if its parts arrived one after another, and its packets, each
-- with where its pages are.
use Rattle.std.proofs.Common.{ℕ, ◌≡◌, ◌<◌, ◌+◌, List, [], ◌∷◌, ◌++◌, length, map, take, get_or, refl, sym, ap, ◌∙◌, subst, Option, Some, None}
use Rattle.std.specs.List.{All, AllZip}
use Rattle.std.proofs.lemmas.List.{take_more, map-append, map_more, append-nil, length-map}
use Rattle.std.proofs.lemmas.List.Elements.{All-append, All-cons, All-nil}
use Rattle.std.proofs.lemmas.List.Sorted.{length_permutation}
use Rattle.mig_mem.specs.RamTable.{RamTable, block_of}
use Rattle.mig_mem.specs.PlaceSet.{PlaceSet}
use Rattle.mig_mem.specs.Image.{Page}
use Rattle.mig_packet.specs.Packet.{Fields}
use Rattle.mig_packet.specs.declared.packet.Packet.{Packet}
use Rattle.mig_packet.specs.PacketHead.{as_zeros}
use Rattle.mig_packet.specs.Lent.{fields}
use Rattle.mig_assemble.specs.declared.fault.RoundFault.{RoundFault}
use Rattle.mig_assemble.specs.declared.judge.Placed.{Placed}
use Rattle.mig_assemble.specs.Judging.{refusal, numbers, place_fault, pages_in, packet_pages, places_of}
use Rattle.mig_assemble.specs.Arrivals.{Arrival, Records, OnePacket, RoundSoFar, HasCome, AlsoHas, IsJudged, SameHead, records_in, packets_in}
use Rattle.mig_assemble.specs.declared.places.Pages.{Pages}
use Rattle.mig_assemble.specs.declared.places.Pages.TheVariants.{Nowhere, In, Misplaced}
use Rattle.mig_assemble.specs.HeadPlaces.{Lie, LieIn}
use Rattle.mig_assemble.specs.AtOnce.{head_of, came_at_once, packets_of, LieEach}
use Rattle.mig_assemble.proofs.Heads.{heads_judged}
use Rattle.mig_assemble.proofs.HeadPlaces.{of_head, head_places, head_offsets, head_fault}
use Rattle.mig_assemble.proofs.Lawful.{all_of_map, each_lies_right}
use Rattle.mig_assemble.proofs.PacketPlaces.{packet_places}
use Rattle.mig_assemble.proofs.PacketParts.{no_pages}

-- what came of a round of this table is of this table
pub came_table : (table : RamTable) (came : List Arrival) (r : RoundSoFar) → HasCome table came r → r.seen.table ≡ table
came_table table came r has = ap (λ (s : PlaceSet). s.table) has.has_seen.marks

-- a packet, by its head
abbrev pub one_packet : Packet → Arrival
one_packet p = OnePacket (as_zeros (head_of p))

-- one packet more has come
pub came_more : (table : RamTable) (records : List Page) (packets : List Packet) (i : ℕ) (q : Packet) (head : List ℕ) (r s : RoundSoFar)
    → i < length packets → q ≡ get_or packets i q → head ≡ head_of q
    → HasCome table (came_at_once records (take i packets)) r → AlsoHas (OnePacket (as_zeros head)) r s
    → HasCome table (came_at_once records (take (i + 1) packets)) s
came_more table records packets i q head r s lt at is has more =
    subst (λ (l : List Arrival). HasCome table l s)
    (ap (λ (h : List ℕ). Records records ∷ map one_packet (take i packets) ++ OnePacket (as_zeros h) ∷ []) is
    ∙ ap (λ (p : Packet). Records records ∷ map one_packet (take i packets) ++ one_packet p ∷ []) at
    ∙ ap (λ (l : List Arrival). Records records ∷ l) (sym (map_more one_packet packets i q lt)))
    (more table (came_at_once records (take i packets)) has)

-- and is listed
pub placed_more : (packets : List Packet) (placed : List Placed) (i : ℕ) (q : Packet) (x : Placed) → i < length packets → q ≡ get_or packets i q
    → x.packet ≡ q → packets_of placed ≡ take i packets → packets_of (placed ++ x ∷ []) ≡ take (i + 1) packets
placed_more packets placed i q x lt at is so_far =
    map-append (λ (y : Placed). y.packet) placed (x ∷ [])
    ∙ ap (λ (l : List Packet). l ++ x.packet ∷ []) so_far
    ∙ ap (λ (p : Packet). take i packets ++ p ∷ []) (is ∙ at)
    ∙ sym (take_more packets i q lt)

pub lie_more : (table : RamTable) (placed : List Placed) (x : Placed) → Lie table (head_of x.packet) x.pages → LieEach table placed
    → LieEach table (placed ++ x ∷ [])
lie_more table placed x lie so_far =
    let P : Placed → Type 0 = λ y. Lie table (head_of y.packet) y.pages in
    All-append P placed (x ∷ []) so_far (All-cons P x [] lie (All-nil P))

-- ---- the judgement

records_none : (packets : List Packet) → records_in (map one_packet packets) ≡ []
records_none [] = refl
records_none (p ∷ ps) = records_none ps

packets_all : (packets : List Packet) → packets_in (map one_packet packets) ≡ map (λ p. as_zeros (head_of p)) packets
packets_all [] = refl
packets_all (p ∷ ps) = ap (λ (l : List Fields). as_zeros (head_of p) ∷ l) (packets_all ps)

heads_alike : (packets : List Packet) → AllZip SameHead (map (λ p. as_zeros (head_of p)) packets) (map fields packets)
heads_alike [] = tt
heads_alike (p ∷ ps) = (of_head p (head_of p) refl, heads_alike ps)

-- the records are the round's, and the packets its packets with zeros for all pages
pub records_came : (records : List Page) (packets : List Packet) → records_in (came_at_once records packets) ≡ records
records_came records packets = ap (λ (l : List Page). records ++ l) (records_none packets) ∙ append-nil records

-- so why what came is refused is why the round is refused
pub judged_at_once : (table : RamTable) (base : ℕ) (records : List Page) (packets : List Packet) (r : RoundSoFar) (why : Option RoundFault)
    → HasCome table (came_at_once records packets) r → IsJudged base r why → refusal table base records (map fields packets) ≡ why
judged_at_once table base records packets r why has judged =
    sym (heads_judged table base records (map (λ p. as_zeros (head_of p)) packets) (map fields packets) (heads_alike packets))
    ∙ ap (λ (l : List Fields). refusal table base records l) (sym (packets_all packets))
    ∙ ap (λ (l : List Page). refusal table base l (packets_in (came_at_once records packets))) (sym (records_came records packets))
    ∙ judged table (came_at_once records packets) has

-- as many numbers came as there are packets
pub numbers_came : (table : RamTable) (records : List Page) (packets : List Packet) (r : RoundSoFar) → HasCome table (came_at_once records packets) r
    → length r.numbers ≡ length packets
numbers_came table records packets r has =
    length_permutation (numbers (packets_in (came_at_once records packets))) r.numbers has.has_numbers
    ∙ length-map (packets_in (came_at_once records packets)) (λ (p : Fields). p.number)
    ∙ ap (λ (l : List Fields). length l) (packets_all packets) ∙ length-map packets (λ p. as_zeros (head_of p))

-- ---- where the pages of a packet are

-- a packet whose pages are in a block names it
pub names_block : (table : RamTable) (p : Packet) (b : ℕ) → LieIn table b (head_of p) → block_of table.blocks (fields p).id ≡ Some b
names_block table p b lie = ap (λ (id : List ℕ). block_of table.blocks id) (sym (of_head p (head_of p) refl).same_id) ∙ lie.has_block

-- the places that its head names there are those of its pages
pub named_there : (table : RamTable) (p : Packet) (b : ℕ) (head : List ℕ) → head ≡ head_of p → LieIn table b (head_of p)
    → places_of (pages_in table (as_zeros head) b) ≡ places_of (packet_pages table (fields p))
named_there table p b head is lie =
    head_places table p head b is ∙ ap (λ (l : List Page). places_of l) (sym (packet_places table (fields p) b (names_block table p b lie)))

-- a packet whose pages are nowhere has none
nowhere_none : (table : RamTable) (p : Packet) → Lie table (head_of p) Nowhere → packet_pages table (fields p) ≡ []
nowhere_none table p lie = no_pages table (fields p) (ap (λ (l : List ℕ). length l) (sym (head_offsets p (head_of p) refl)) ∙ lie)

-- a packet of a lawful round isn't misplaced
not_misplaced : (table : RamTable) (p : Packet) (fault : RoundFault) → Lie table (head_of p) (Misplaced fault)
    → place_fault table (fields p) ≡ None → ⊥
not_misplaced table p fault lie lawful =
    let both : None ≡ Some fault = sym lawful ∙ sym (head_fault table p (head_of p) refl) ∙ lie in cc

-- so a packet of a lawful round that is in no block has no pages
pub not_in_none : (table : RamTable) (p : Packet) (pages : Pages) → Lie table (head_of p) pages → place_fault table (fields p) ≡ None
    → ((b : ℕ) → pages ≡ In b → ⊥) → packet_pages table (fields p) ≡ []
not_in_none table p Nowhere lie lawful other = nowhere_none table p lie
not_in_none table p (In b) lie lawful other = absurd (other b refl)
not_in_none table p (Misplaced fault) lie lawful other = absurd (not_misplaced table p fault lie lawful)

-- what is true of each packet of a round is true of the packets that are listed
each_placed : (P : Packet → Type 0) (packets : List Packet) (placed : List Placed) → packets_of placed ≡ packets → All P packets
    → All (λ x. P x.packet) placed
each_placed P packets placed same all = all_of_map P (λ (x : Placed). x.packet) placed (subst (λ (l : List Packet). All P l) (sym same) all)

-- so each has the page size of the table
pub placed_sizes : (table first : RamTable) (packets gathered : List Packet) (placed : List Placed) → table ≡ first → packets ≡ gathered
    → packets_of placed ≡ packets → All (λ p. p.page_size ≡ first.page_size) gathered → All (λ x. x.packet.page_size ≡ table.page_size) placed
placed_sizes table first packets gathered placed same all is sizes =
    each_placed (λ p. p.page_size ≡ table.page_size) packets placed is
    (subst (λ (l : List Packet). All (λ p. p.page_size ≡ table.page_size) l) (sym all)
    (subst (λ (t : RamTable). All (λ p. p.page_size ≡ t.page_size) gathered) (sym same) sizes))

-- and none of a lawful round has a fault of its places
pub placed_lawful : (table first : RamTable) (base : ℕ) (records : List Page) (packets : List Packet) (placed : List Placed) → table ≡ first
    → packets_of placed ≡ packets → refusal first base records (map fields packets) ≡ None
    → All (λ x. place_fault table (fields x.packet) ≡ None) placed
placed_lawful table first base records packets placed same is lawful =
    each_placed (λ p. place_fault table (fields p) ≡ None) packets placed is
    (subst (λ (t : RamTable). All (λ p. place_fault t (fields p) ≡ None) packets) (sym same) (each_lies_right first base records packets lawful))
