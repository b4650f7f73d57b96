-- Where the pages of a packet are, by its head.
use Rattle.std.proofs.Common.{ℕ, ◌≡◌, false, List, [], ◌++◌, length, map, take, sym, ap, subst, ◌∙◌, Option, Some, None}
use Rattle.std.specs.List.{All}
use Rattle.std.specs.Option.{unwrap_or}
use Rattle.std.proofs.lemmas.List.{append-nil, nil_from_length}
use Rattle.mig_mem.specs.declared.place.Place.{Place}
use Rattle.mig_mem.specs.RamTable.{RamTable, block, block_of}
use Rattle.mig_mem.specs.PlaceSet.{PlaceSet}
use Rattle.mig_mem.specs.Image.{Page}
use Rattle.mig_packet.specs.declared.packet.Packet.{Packet}
use Rattle.mig_packet.specs.Packet.{Fields}
use Rattle.mig_packet.specs.PageSize.{head_len}
use Rattle.mig_packet.specs.PacketHead.{offsets_in, as_zeros}
use Rattle.mig_packet.specs.Lent.{fields}
use Rattle.mig_packet.proofs.Heads.{head_zeros}
use Rattle.mig_assemble.specs.declared.fault.RoundFault.{RoundFault}
use Rattle.mig_assemble.specs.declared.places.Pages.{Pages}
use Rattle.mig_assemble.specs.declared.places.Pages.TheVariants.{Nowhere, In, Misplaced}
use Rattle.mig_assemble.specs.Judging.{offsets, is_outside, place_fault, pages_in, packet_pages, places_of}
use Rattle.mig_assemble.specs.Arrivals.{SameHead}
use Rattle.mig_assemble.specs.Seen.{HasSeen, SeesMore}
use Rattle.mig_assemble.specs.HeadPlaces.{Lie, LieIn}
use Rattle.mig_assemble.proofs.PacketPlaces.{place_of, offsets_are, fault_none, lawful_inside, places-in, packet_places}
use Rattle.mig_assemble.proofs.Heads.{same_fault}

-- the head of a packet says what it says
pub of_head : (p : Packet) (head : List ℕ) → head ≡ take (head_len p.page_size) p.bytes.now → SameHead (as_zeros head) (fields p)
of_head p head is =
    let same : as_zeros head ≡ as_zeros p.bytes.now = ap as_zeros is ∙ head_zeros p.page_size p.bytes.now p.is_packet in
    record {
      same_number = ap (λ (q : Fields). q.number) same;
      same_id = ap (λ (q : Fields). q.id) same;
      same_offsets = ap (λ (q : Fields). q.zero) same ∙ sym (offsets_are p);
    }

-- a packet's head lists the offsets of the packet
pub head_offsets : (p : Packet) (head : List ℕ) → head ≡ take (head_len p.page_size) p.bytes.now → offsets_in head ≡ offsets (fields p)
head_offsets p head is = (of_head p head is).same_offsets

-- and the same places
pub head_places : (table : RamTable) (p : Packet) (head : List ℕ) (at : ℕ) → head ≡ take (head_len p.page_size) p.bytes.now
    → places_of (pages_in table (as_zeros head) at) ≡ places_of (pages_in table (fields p) at)
head_places table p head at is =
    places-in table (as_zeros head) at ∙ ap (λ (os : List ℕ). map (place_of table at) os) (head_offsets p head is) ∙ sym (places-in table (fields p) at)

-- the head of a packet, all pages taken as zeros, has the packet's fault of places
pub head_fault : (table : RamTable) (p : Packet) (head : List ℕ) → head ≡ take (head_len p.page_size) p.bytes.now
    → place_fault table (as_zeros head) ≡ place_fault table (fields p)
head_fault table p head is = same_fault table (as_zeros head) (fields p) (of_head p head is)

-- the fault of the places, where they are known
abbrev pub fault_in : Pages → Option RoundFault
fault_in Nowhere = None
fault_in (In b) = None
fault_in (Misplaced fault) = Some fault

-- the fault of a head's places is the one that its pages have, all taken as zeros
pub lie_fault : (table : RamTable) (head : List ℕ) (pages : Pages) → Lie table head pages → place_fault table (as_zeros head) ≡ fault_in pages
lie_fault table head Nowhere lie = fault_none table (as_zeros head) lie
lie_fault table head (In b) lie = lie.1.are_right
lie_fault table head (Misplaced fault) lie = lie

-- pages that are in a block lie inside it
pub lie_inside : (table : RamTable) (b : ℕ) (head : List ℕ) → LieIn table b head
    → All (λ offset. is_outside table.page_size (block table.blocks b).pages offset ≡ false) (offsets_in head)
lie_inside table b head lie = lawful_inside table (as_zeros head) b lie.are_right lie.has_block

-- a packet without pages has no place
pub nowhere_sees : (table : RamTable) (head : List ℕ) (seen : PlaceSet) (double : Option Place) → length (offsets_in head) ≡ 0
    → SeesMore (places_of (packet_pages table (as_zeros head))) seen double seen double
nowhere_sees table head seen double none = λ places has.
    let at : ℕ = unwrap_or (block_of table.blocks (as_zeros head).id) 0 in
    let nothing : places_of (packet_pages table (as_zeros head)) ≡ [] =
    places-in table (as_zeros head) at ∙ ap (λ (os : List ℕ). map (place_of table at) os) (nil_from_length (offsets_in head) none) in
    subst (λ (ps : List Place). HasSeen seen.table ps seen double) (sym (append-nil places) ∙ ap (λ (l : List Place). places ++ l) (sym nothing)) has

-- the pages of a packet that is in a block are those of its head there
pub in_sees : (table : RamTable) (b : ℕ) (head : List ℕ) → LieIn table b head
    → places_of (pages_in table (as_zeros head) b) ≡ places_of (packet_pages table (as_zeros head))
in_sees table b head lie = ap (λ (l : List Page). places_of l) (sym (packet_places table (as_zeros head) b lie.has_block))
