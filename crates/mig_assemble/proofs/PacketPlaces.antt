-- The pages of a packet: their offsets, their places, and what is wrong with them.
use Rattle.std.proofs.Common.{ℕ, ◌≡◌, ◌<◌, ◌+◌, ◌/◌, ◌%◌, zero, List, [], ◌++◌, length, map}
use Rattle.std.proofs.Common.{sym, ap, ◌∙◌, inl, inr, arith, Option, Some, None, false, not}
use Rattle.std.specs.Prelude.{◌==◌, position, nat_le}
use Rattle.std.specs.List.{range_with_len, All}
use Rattle.std.specs.Option.{option_map, unwrap_or}
use Rattle.std.proofs.lemmas.Bool.{cases_eq, cond-true, cond-false, eq-eqb, ne_eqb, or_parts, leb-false}
use Rattle.std.proofs.lemmas.List.{map-append, nil_from_length}
use Rattle.mig_mem.specs.declared.place.Place.{Place}
use Rattle.mig_mem.specs.RamTable.{RamTable, block, block_of}
use Rattle.mig_mem.specs.Place.{place_at, IsPlace}
use Rattle.mig_mem.specs.Image.{Page, zero_page}
use Rattle.mig_mem.proofs.Members.{map-map}
use Rattle.mig_mem.proofs.Counts.{range-append}
use Rattle.mig_mem.proofs.Lists.{map_none}
use Rattle.mig_packet.specs.declared.packet.Packet.{Packet}
use Rattle.mig_packet.specs.Packet.{NormalPage, Fields, offset_at, content_at, normal_count, zero_count}
use Rattle.mig_packet.specs.Lent.{fields}
use Rattle.mig_assemble.specs.declared.fault.RoundFault.TheVariants.{UnknownBlock, Offset}
use Rattle.mig_assemble.specs.Judging.{offsets, is_outside, offset_fault, place_fault, page_in, pages_in, packet_pages, places_of}
use Rattle.mig_assemble.proofs.PacketParts.{position_none}

-- ---- offsets

-- a packet's offsets are the first ones that it has
pub offsets_are : (p : Packet) → offsets (fields p) ≡ map (offset_at p.bytes.now) (range_with_len 0 (normal_count p.bytes.now + zero_count p.bytes.now))
offsets_are p =
    let bytes : List ℕ = p.bytes.now in
    let n : ℕ = normal_count bytes in
    let z : ℕ = zero_count bytes in
    let normal : ℕ → NormalPage = λ i. record { offset = offset_at bytes i; content = content_at p.page_size bytes i } in
    let zeros : List ℕ = map (offset_at bytes) (range_with_len n z) in
    ap (λ (l : List ℕ). l ++ zeros) (map-map (λ (x : NormalPage). x.offset) normal (range_with_len 0 n))
    ∙ sym (ap (λ (l : List ℕ). map (offset_at bytes) l) (range-append 0 n z ∙ ap (λ (k : ℕ). range_with_len 0 n ++ range_with_len k z) (omega arith))
    ∙ map-append (offset_at bytes) (range_with_len 0 n) (range_with_len n z))

-- ---- what is wrong

-- a packet without pages has no fault of places
pub fault_none : (table : RamTable) (q : Fields) → length (offsets q) ≡ 0 → place_fault table q ≡ None
fault_none table q e = cond-true (length (offsets q) == 0) None (offset_fault table q (block_of table.blocks q.id)) (eq-eqb (length (offsets q)) 0 e)

fault_some : (table : RamTable) (q : Fields) (at : Option ℕ) → (length (offsets q) ≡ 0 → ⊥) → block_of table.blocks q.id ≡ at
    → place_fault table q ≡ offset_fault table q at
fault_some table q at some e =
    cond-false (length (offsets q) == 0) None (offset_fault table q (block_of table.blocks q.id)) (ne_eqb (length (offsets q)) 0 some)
    ∙ ap (offset_fault table q) e

-- a packet with pages of a block that the table doesn't have has that fault
pub fault_unknown : (table : RamTable) (q : Fields) → (length (offsets q) ≡ 0 → ⊥) → block_of table.blocks q.id ≡ None
    → place_fault table q ≡ Some (UnknownBlock q.number)
fault_unknown table q some e = fault_some table q None some e

-- a packet with pages of a block of the table has the fault of its first offset outside
pub fault_known : (table : RamTable) (q : Fields) (at : ℕ) → (length (offsets q) ≡ 0 → ⊥) → block_of table.blocks q.id ≡ Some at
    → place_fault table q ≡ option_map (Offset q.number) (position (is_outside table.page_size (block table.blocks at).pages) (offsets q))
fault_known table q at some e = fault_some table q (Some at) some e

pub ruleset faults = (fault_none, fault_unknown, fault_known)

-- a lawful packet that names a block has all its pages there
pub lawful_inside : (table : RamTable) (q : Fields) (at : ℕ) → place_fault table q ≡ None → block_of table.blocks q.id ≡ Some at
    → All (λ offset. is_outside table.page_size (block table.blocks at).pages offset ≡ false) (offsets q)
lawful_inside table q at lawful found = elim (cases_eq (length (offsets q)) 0) [
  | inl none ↦ (λ k d lt. absurd (omega arith))
  | inr some ↦ position_none (is_outside table.page_size (block table.blocks at).pages) (offsets q)
      (map_none (Offset q.number) (position (is_outside table.page_size (block table.blocks at).pages) (offsets q))
      (sym (fault_known table q at some found) ∙ lawful))
]

-- ---- places

-- the place of the page at an offset in a block
abbrev pub place_of : RamTable → ℕ → ℕ → Place
place_of table at offset = place_at at (offset / table.page_size)

-- the places of a packet's pages, in the order of its offsets
pub places-in : (table : RamTable) (q : Fields) (at : ℕ) → places_of (pages_in table q at) ≡ map (place_of table at) (offsets q)
places-in table q at =
    let of_normal : NormalPage → Page = λ x. page_in table at x.offset x.content in
    let of_zero : ℕ → Page = λ o. page_in table at o (zero_page table.page_size) in
    map-append (λ (x : Page). x.place) (map of_normal q.normal) (map of_zero q.zero)
    ∙ ap (λ (l : List Place). l ++ places_of (map of_zero q.zero))
    (map-map (λ (x : Page). x.place) of_normal q.normal ∙ sym (map-map (place_of table at) (λ (x : NormalPage). x.offset) q.normal))
    ∙ ap (λ (l : List Place). map (place_of table at) (map (λ (x : NormalPage). x.offset) q.normal) ++ l) (map-map (λ (x : Page). x.place) of_zero q.zero)
    ∙ sym (map-append (place_of table at) (map (λ (x : NormalPage). x.offset) q.normal) q.zero)

-- an offset that isn't outside is of a place of the table
pub place_inside : (table : RamTable) (at offset : ℕ) → at < length table.blocks → is_outside table.page_size (block table.blocks at).pages offset ≡ false
    → IsPlace table (place_of table at offset)
place_inside table at offset has inside =
    let both = or_parts (not (offset % table.page_size == 0)) (nat_le (block table.blocks at).pages (offset / table.page_size)) inside in
    record { has_block = has; has_page = leb-false (block table.blocks at).pages (offset / table.page_size) both.1 }

-- if the table has the block that a packet names, the packet's pages lie in that block
pub packet_places : (table : RamTable) (q : Fields) (at : ℕ) → block_of table.blocks q.id ≡ Some at → packet_pages table q ≡ pages_in table q at
packet_places table q at e = ap (λ (o : Option ℕ). pages_in table q (unwrap_or o 0)) e

-- a lawful packet that names no block has no pages
pub lawful_empty : (table : RamTable) (q : Fields) → place_fault table q ≡ None → block_of table.blocks q.id ≡ None → places_of (packet_pages table q) ≡ []
lawful_empty table q lawful none = elim (cases_eq (length (offsets q)) 0) [
  | inl e ↦ places-in table q (unwrap_or (block_of table.blocks q.id) 0)
      ∙ ap (λ (l : List ℕ). map (place_of table (unwrap_or (block_of table.blocks q.id) 0)) l) (nil_from_length (offsets q) e)
  | inr some ↦ let bad = fault_unknown table q some none in absurd cc
]
