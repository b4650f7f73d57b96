-- A round has no refusal exactly if it is lawful.
use Rattle.std.proofs.Common.{ℕ, ◌≡◌, ◌<◌, ◌/◌, ◌%◌, List, [], ◌∷◌, length, get_or, refl, sym, ap, ◌∙◌}
use Rattle.std.proofs.Common.{inl, inr, arith, subst, suc, zero, Option, Some, None, Bool, true, false}
use Rattle.std.specs.Prelude.{◌==◌, ◌↔◌, not, nat_lt, nat_le, nat_eq, position, All, filter, bytes_eq}
use Rattle.std.specs.Option.{option_map, option_and_then, is_some}
use Rattle.std.proofs.lemmas.Bool.{cases_Bool, cond-true, cond-false, eqb-true, ne_eqb, eq-eqb, or_parts, or_from, lt-leb}
use Rattle.std.proofs.lemmas.List.Elements.{All-weaker, All-contains}
use Rattle.std.proofs.lemmas.List.Quantifiers.{position-Some}
use Rattle.std.proofs.lemmas.Option.{same_Some}
use Rattle.mig_mem.specs.declared.place.Place.{Place}
use Rattle.mig_mem.specs.First.{first_some}
use Rattle.mig_mem.specs.RamTable.{RamTable, Block, block, block_of}
use Rattle.mig_mem.specs.Place.{IsPlace, place_at, place_lt, place_eq}
use Rattle.mig_mem.specs.Image.{Page}
use Rattle.mig_mem.proofs.Lists.{position_past, or_none}
use Rattle.mig_mem.proofs.PlaceOrder.{place_eq-true, place_eq-from}
use Rattle.mig_packet.specs.Packet.{Fields}
use Rattle.mig_assemble.specs.declared.fault.RoundFault.{RoundFault}
use Rattle.mig_assemble.specs.declared.fault.RoundFault.TheVariants.{Foreign, Doubled, Missing, DoublePage, Offset}
use Rattle.mig_assemble.specs.Judging.{least, twice, absent, numbers, offsets, is_outside, offset_fault}
use Rattle.mig_assemble.specs.Judging.{place_fault, least_place_fault, all_round_pages, places_of, refusal}
use Rattle.mig_assemble.specs.Sorted.{number_refusal}
use Rattle.mig_assemble.specs.Lawful.{IsPageOffset, IsLawful}
use Rattle.mig_assemble.proofs.Elements.{filter_none}
use Rattle.mig_assemble.proofs.Least.{least_none}
use Rattle.mig_assemble.proofs.Lawful.{lawful_lies_right}
use Rattle.mig_assemble.proofs.PacketParts.{not_outside, position_none, offset_fault_none}
use Rattle.mig_assemble.proofs.Runs.{run_from_none, none_from_run}
use Rattle.mig_assemble.proofs.Once.{each_once, none_twice}

-- ---- the pages of a packet

right_page : (table : RamTable) (packet : Fields) (b : ℕ) → block_of table.blocks packet.id ≡ Some b → (offset : ℕ)
    → is_outside table.page_size (block table.blocks b).pages offset ≡ false → IsPageOffset table packet.id offset
right_page table packet b names offset inside =
    let known : b < length table.blocks = (position-Some (λ (e : Block). bytes_eq e.id packet.id) table.blocks b (block table.blocks b) names).0 in
    let parts = or_parts (not (offset % table.page_size == 0)) (nat_le (block table.blocks b).pages (offset / table.page_size)) inside in
    record {
      block = b;
      has_id = names;
      begins_page = eqb-true (offset % table.page_size) 0 (not_from_false' (offset % table.page_size == 0) parts.0);
      is_place = not_outside table b offset known inside;
    }
  where
    not_from_false' : (a : Bool) → not a ≡ false → a ≡ true
    not_from_false' true e = refl
    not_from_false' false e = absurd cc

right_pages : (table : RamTable) (packet : Fields) → place_fault table packet ≡ None → All (IsPageOffset table packet.id) (offsets packet)
right_pages table packet right k d lt = go (block_of table.blocks packet.id) refl
  where
    some : (length (offsets packet) == 0) ≡ false
    some = ne_eqb (length (offsets packet)) 0 (λ e. omega (arith, e, lt))

    go : (o : Option ℕ) → block_of table.blocks packet.id ≡ o → IsPageOffset table packet.id (get_or (offsets packet) k d)
    go None unknown =
        absurd (let fault = sym right ∙ cond-false (length (offsets packet) == 0) None (offset_fault table packet (block_of table.blocks packet.id)) some
        ∙ ap (offset_fault table packet) unknown in cc)
    go (Some b) names =
        let fault : offset_fault table packet (Some b) ≡ None =
        ap (offset_fault table packet) (sym names)
        ∙ sym (cond-false (length (offsets packet) == 0) None (offset_fault table packet (block_of table.blocks packet.id)) some) ∙ right in
        right_page table packet b names (get_or (offsets packet) k d)
        (position_none (is_outside table.page_size (block table.blocks b).pages) (offsets packet) (offset_fault_none table packet b fault) k d lt)

inside : (table : RamTable) (packet : Fields) (b offset : ℕ) → block_of table.blocks packet.id ≡ Some b → IsPageOffset table packet.id offset
    → is_outside table.page_size (block table.blocks b).pages offset ≡ false
inside table packet b offset names is =
    let same : is.block ≡ b = same_Some is.block b (sym is.has_id ∙ names) in
    let page : IsPlace table (place_at b (offset / table.page_size)) =
    subst (λ (c : ℕ). IsPlace table (place_at c (offset / table.page_size))) same is.is_place in
    let at : offset / table.page_size < (block table.blocks b).pages = page.has_page in
    or_from (not (offset % table.page_size == 0)) (nat_le (block table.blocks b).pages (offset / table.page_size))
    (ap not (eq-eqb (offset % table.page_size) 0 is.begins_page)) (lt-leb (block table.blocks b).pages (offset / table.page_size) at)

pages_right : (table : RamTable) (packet : Fields) → All (IsPageOffset table packet.id) (offsets packet) → place_fault table packet ≡ None
pages_right table packet all = elim (cases_Bool (length (offsets packet) == 0)) [
  | inl t ↦ cond-true (length (offsets packet) == 0) None (offset_fault table packet (block_of table.blocks packet.id)) t
  | inr f ↦
      let some : 0 < length (offsets packet) = more (length (offsets packet)) f in
      let first : IsPageOffset table packet.id (get_or (offsets packet) 0 0) = all 0 0 some in
      let none : position (is_outside table.page_size (block table.blocks first.block).pages) (offsets packet) ≡ None =
      position_past (is_outside table.page_size (block table.blocks first.block).pages) (offsets packet) (length (offsets packet)) 0 (omega arith)
      (λ k lt. inside table packet first.block (get_or (offsets packet) k 0) first.has_id (all k 0 lt)) in
      cond-false (length (offsets packet) == 0) None (offset_fault table packet (block_of table.blocks packet.id)) f
      ∙ ap (offset_fault table packet) first.has_id ∙ ap (λ (o : Option ℕ). option_map (Offset packet.number) o) none
]
  where
    more : (n : ℕ) → (n == 0) ≡ false → 0 < n
    more zero f = absurd cc
    more (suc n) f = omega arith

no_place_fault : (table : RamTable) (packets : List Fields) → All (λ packet. All (IsPageOffset table packet.id) (offsets packet)) packets
    → least_place_fault table packets ≡ None
no_place_fault table packets all =
    ap (λ (l : List Fields). option_and_then (place_fault table) (least (λ p q. nat_lt p.number q.number) l))
    (filter_none (λ packet. is_some (place_fault table packet)) packets
    (λ packet h. ap (λ (o : Option RoundFault). is_some o)
    (pages_right table packet (All-contains (λ p. All (IsPageOffset table p.id) (offsets p)) packets packet all h))))

-- ---- the five tests

no_double : (o : Option Place) → option_map DoublePage o ≡ None → o ≡ None
no_double None e = refl
no_double (Some p) e = absurd cc

-- the first three tests are those of the numbers
record Parts (table : RamTable) (base : ℕ) (records : List Page) (packets : List Fields) : Type 0 where
  of_numbers : number_refusal base (numbers packets) ≡ None
  of_places : least_place_fault table packets ≡ None
  of_doubles : option_map DoublePage (least place_lt (twice place_eq (places_of (all_round_pages table records packets)))) ≡ None

parts_of : (table : RamTable) (base : ℕ) (records : List Page) (packets : List Fields) → refusal table base records packets ≡ None
    → Parts table base records packets
parts_of table base records packets e =
    let foreign : Option RoundFault = option_map Foreign (least nat_lt (filter (λ n. nat_lt n base) (numbers packets))) in
    let doubled : Option RoundFault = option_map Doubled (least nat_lt (twice nat_eq (numbers packets))) in
    let missing : Option RoundFault = option_map Missing (least nat_lt (absent base (numbers packets))) in
    let last : Option RoundFault = option_map DoublePage (least place_lt (twice place_eq (places_of (all_round_pages table records packets)))) in
    let a = or_none foreign (first_some (doubled ∷ (missing ∷ (least_place_fault table packets ∷ (last ∷ []))))) e in
    let b = or_none doubled (first_some (missing ∷ (least_place_fault table packets ∷ (last ∷ [])))) a.1 in
    let c = or_none missing (first_some (least_place_fault table packets ∷ (last ∷ []))) b.1 in
    let d = or_none (least_place_fault table packets) (first_some (last ∷ [])) c.1 in
    record {
      of_numbers = rw (a.0, b.0, c.0) refl;
      of_places = d.0;
      of_doubles = (or_none last None d.1).0;
    }

from_parts : (table : RamTable) (base : ℕ) (records : List Page) (packets : List Fields) → Parts table base records packets
    → refusal table base records packets ≡ None
from_parts table base records packets p =
    let foreign : Option RoundFault = option_map Foreign (least nat_lt (filter (λ n. nat_lt n base) (numbers packets))) in
    let doubled : Option RoundFault = option_map Doubled (least nat_lt (twice nat_eq (numbers packets))) in
    let missing : Option RoundFault = option_map Missing (least nat_lt (absent base (numbers packets))) in
    let a = or_none foreign (first_some (doubled ∷ (missing ∷ []))) p.of_numbers in
    let b = or_none doubled (first_some (missing ∷ [])) a.1 in
    let c = or_none missing None b.1 in
    rw (a.0, b.0, c.0, p.of_places, p.of_doubles) refl

-- ---- the law

-- a round is refused nothing if, and only if, it is lawful
pub round_is_lawful : (table : RamTable) (base : ℕ) (records : List Page) (packets : List Fields)
    → (refusal table base records packets ≡ None) ↔ IsLawful table base records packets
round_is_lawful table base records packets = (
  (λ none.
      let p = parts_of table base records packets none in record {
        has_run = run_from_none base (numbers packets) p.of_numbers;
        has_places = All-weaker (λ q. place_fault table q ≡ None) (λ q. All (IsPageOffset table q.id) (offsets q)) (right_pages table) packets
            (lawful_lies_right table base records packets none);
        has_each_once = each_once place_eq place_eq-true (λ q. place_eq-from q q refl) places
            (least_none place_lt (twice place_eq places) (no_double (least place_lt (twice place_eq places)) p.of_doubles));
      }),
  (λ is. from_parts table base records packets (record {
    of_numbers = none_from_run base (numbers packets) is.has_run;
    of_places = no_place_fault table packets is.has_places;
    of_doubles = ap (λ (l : List Place). option_map DoublePage (least place_lt l))
        (none_twice place_eq place_eq-true (λ q. place_eq-from q q refl) places is.has_each_once);
  })),
)
  where
    places : List Place
    places = places_of (all_round_pages table records packets)
