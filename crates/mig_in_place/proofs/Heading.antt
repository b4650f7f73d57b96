-- A packet's pages lie where its head says: those of the packet of zeros of its head have the same
-- places.
use Rattle.std.proofs.Common.{ℕ, ◌≡◌, Bool, true, false, List, [], ◌∷◌, ◌++◌, map, Option, refl, sym, ap, ◌∙◌, arith}
use Rattle.std.specs.Prelude.{is_none, if◌then◌else◌}
use Rattle.std.specs.List.{flat_map, range_with_len, AllZip}
use Rattle.std.proofs.lemmas.List.{map-append}
use Rattle.mig_mem.specs.declared.place.Place.{Place}
use Rattle.mig_mem.specs.RamTable.{RamTable}
use Rattle.mig_mem.proofs.Members.{map-map}
use Rattle.mig_mem.proofs.Counts.{range-append}
use Rattle.mig_packet.specs.Packet.{Fields, NormalPage, fields_of, normal_count, zero_count, offset_at, content_at}
use Rattle.mig_packet.specs.PacketHead.{IsPacketHead, offsets_in, as_zeros}
use Rattle.mig_assemble.specs.declared.fault.RoundFault.{RoundFault}
use Rattle.mig_assemble.specs.Judging.{offsets, place_fault, packet_pages, places_of}
use Rattle.mig_assemble.specs.Arrivals.{OnePacket, SameHead, arrival_pages}
use Rattle.mig_assemble.proofs.Heads.{same_fault, same_places}
use Rattle.mig_in_place.specs.Named.{packet_places}
use Rattle.mig_in_place.specs.Sources.{head_places}
use Rattle.mig_packet.proofs.Heads.{zeros_front}

offsets_said : (size : ℕ) (bytes : List ℕ) → offsets (fields_of size bytes) ≡ offsets_in bytes
offsets_said size bytes =
    let n : ℕ = normal_count bytes in
    let z : ℕ = zero_count bytes in
    let normal : ℕ → NormalPage = λ i. record { offset = offset_at bytes i; content = content_at size bytes i } in
    let zeros : List ℕ = map (offset_at bytes) (range_with_len n z) in
    ap (λ (l : List ℕ). l ++ zeros) (map-map (λ (x : NormalPage). x.offset) normal (range_with_len 0 n))
    ∙ sym (ap (λ (l : List ℕ). map (offset_at bytes) l) (range-append 0 n z ∙ ap (λ (k : ℕ). range_with_len 0 n ++ range_with_len k z) (omega arith))
    ∙ map-append (offset_at bytes) (range_with_len 0 n) (range_with_len n z))

-- a packet has the same head as the packet of zeros with its head's offsets
pub same_head : (size : ℕ) (bytes : List ℕ) → SameHead (as_zeros bytes) (fields_of size bytes)
same_head size bytes = record { same_number = refl; same_id = refl; same_offsets = sym (offsets_said size bytes) }

-- each of some packets has the same head as its packet of zeros
pub same_heads : (size : ℕ) (packets : List (List ℕ)) → AllZip SameHead (map as_zeros packets) (map (fields_of size) packets)
same_heads size [] = tt
same_heads size (bytes ∷ packets) = (same_head size bytes, same_heads size packets)

places_there : (table : RamTable) (p q : Fields) → SameHead p q → places_of (arrival_pages table (OnePacket p)) ≡ places_of (arrival_pages table (OnePacket q))
places_there table p q same =
    ap (λ (o : Option RoundFault). places_of (if is_none o then packet_pages table p else [])) (same_fault table p q same)
    ∙ by_fault (is_none (place_fault table q))
  where
    by_fault : (b : Bool) → places_of (if b then packet_pages table p else []) ≡ places_of (if b then packet_pages table q else [])
    by_fault true = same_places table p q same
    by_fault false = refl

-- the places that a packet's head names are those of its pages
pub places_named : (table : RamTable) (bytes : List ℕ) → head_places table bytes ≡ packet_places table bytes
places_named table bytes = places_there table (as_zeros bytes) (fields_of table.page_size bytes) (same_head table.page_size bytes)

-- the places that the heads of some packets name are those of their pages
pub all_places_named : (table : RamTable) (packets : List (List ℕ)) → flat_map (head_places table) packets ≡ flat_map (packet_places table) packets
all_places_named table [] = refl
all_places_named table (bytes ∷ packets) =
    ap (λ (l : List Place). l ++ flat_map (head_places table) packets) (places_named table bytes)
    ∙ ap (λ (l : List Place). packet_places table bytes ++ l) (all_places_named table packets)

-- more bytes after a head name no other places
pub places_front : (table : RamTable) (size : ℕ) (head more : List ℕ) → IsPacketHead size head → head_places table head ≡ packet_places table (head ++ more)
places_front table size head more is =
    ap (λ (q : Fields). places_of (arrival_pages table (OnePacket q))) (sym (zeros_front size head more is)) ∙ places_named table (head ++ more)
