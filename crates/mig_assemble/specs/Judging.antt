-- Which rounds are lawful, and why others are refused, for a list of page records and packets in
-- any order.
use Rattle.std.specs.Prelude.{ℕ, ◌/◌, ◌%◌, Bool, not, nat_eq, nat_lt, nat_le, ◌==◌, ◌||◌, if◌then◌else◌, List, []}
use Rattle.std.specs.Prelude.{◌∷◌, ◌++◌, length, map, flat_map, count_by, position, Option, Some, None}
use Rattle.std.specs.List.{filter, list_any, range_with_len}
use Rattle.std.specs.Option.{option_map, option_and_then, is_some, unwrap_or}
use Rattle.mig_mem.specs.declared.place.Place.{Place}
use Rattle.mig_mem.specs.First.{first_some}
use Rattle.mig_mem.specs.RamTable.{RamTable, block, block_of}
use Rattle.mig_mem.specs.Place.{place_at, place_eq, place_lt}
use Rattle.mig_mem.specs.Image.{Page, zero_page}
use Rattle.mig_packet.specs.Packet.{Fields}
use Rattle.mig_assemble.specs.declared.fault.RoundFault.{RoundFault}
use Rattle.mig_assemble.specs.declared.fault.RoundFault.TheVariants.{Foreign, Doubled, Missing, UnknownBlock, Offset, DoublePage}

-- ---- the least of a list, and the elements that occur twice

-- the lesser of an element and another, if there is another
abbrev pub lesser : {X : Type 0} → (X → X → Bool) → X → Option X → X
lesser lt x None = x
lesser lt x (Some y) = if lt y x then y else x

abbrev pub least : {X : Type 0} → (X → X → Bool) → List X → Option X
least lt [] = None
least lt (x ∷ xs) = Some (lesser lt x (least lt xs))

-- the elements that occur twice or more often
abbrev pub twice : {X : Type 0} → (X → X → Bool) → List X → List X
twice eq xs = filter (λ x. nat_le 2 (count_by (λ y. eq y x) xs)) xs

-- ---- the pages of a packet

-- the offsets of all its pages, the normal ones first
abbrev pub offsets : Fields → List ℕ
offsets packet = map (λ page. page.offset) packet.normal ++ packet.zero

-- no page of a block of this many pages begins at the offset
abbrev pub is_outside : ℕ → ℕ → ℕ → Bool
is_outside page_size pages offset = not (offset % page_size == 0) || nat_le pages (offset / page_size)

-- The fault of a packet that has pages, by the block that its id names, if it names one: it names
-- none, or else the first offset, by its number among all, at which that block has no page.
abbrev pub offset_fault : RamTable → Fields → Option ℕ → Option RoundFault
offset_fault table packet None = Some (UnknownBlock packet.number)
offset_fault table packet (Some b) = option_map (Offset packet.number) (position (is_outside table.page_size (block table.blocks b).pages) (offsets packet))

-- The fault of the places of a packet's pages: no block has its id, or no page has one of its
-- offsets. The id of a packet without pages isn't tested.
abbrev pub place_fault : RamTable → Fields → Option RoundFault
place_fault table packet = if length (offsets packet) == 0 then None else offset_fault table packet (block_of table.blocks packet.id)

-- the page at an offset in a block
abbrev pub page_in : RamTable → ℕ → ℕ → List ℕ → Page
page_in table b offset content = record { place = place_at b (offset / table.page_size); content = content }

-- the pages of a packet in a block: the normal ones with their contents, and then the others as
-- zeros
abbrev pub pages_in : RamTable → Fields → ℕ → List Page
pages_in table packet b =
    map (λ page. page_in table b page.offset page.content) packet.normal
    ++ map (λ offset. page_in table b offset (zero_page table.page_size)) packet.zero

-- the pages of a packet, in the block that it names
abbrev pub packet_pages : RamTable → Fields → List Page
packet_pages table packet = pages_in table packet (unwrap_or (block_of table.blocks packet.id) 0)

-- ---- a round

abbrev pub numbers : List Fields → List ℕ
numbers packets = map (λ packet. packet.number) packets

-- the missing ones of the numbers from the base on, as many as there are packets
abbrev pub absent : ℕ → List ℕ → List ℕ
absent base ns = filter (λ n. not (list_any (λ m. m == n) ns)) (range_with_len base (length ns))

-- the packet of least number among those whose pages are misplaced, and its fault
abbrev pub least_misplaced : RamTable → List Fields → Option Fields
least_misplaced table packets = least (λ p q. nat_lt p.number q.number) (filter (λ packet. is_some (place_fault table packet)) packets)

abbrev pub least_place_fault : RamTable → List Fields → Option RoundFault
least_place_fault table packets = option_and_then (place_fault table) (least_misplaced table packets)

-- the pages of a round: those of its records, in their order, and those of its packets
abbrev pub all_round_pages : RamTable → List Page → List Fields → List Page
all_round_pages table records packets = records ++ flat_map (packet_pages table) packets

abbrev pub places_of : List Page → List Place
places_of pages = map (λ page. page.place) pages

-- Why a round is refused whose packets must be numbered from the base on: the first that applies.
-- the least number below the base, the least number that occurs twice, the least of the consecutive
-- numbers that is missing, the packet of least number with a misplaced page, the least place that
-- occurs twice, among the records and the packets together. None if the round is lawful.
abbrev pub refusal : RamTable → ℕ → List Page → List Fields → Option RoundFault
refusal table base records packets = first_some (
    option_map Foreign (least nat_lt (filter (λ n. nat_lt n base) (numbers packets))) ∷
    option_map Doubled (least nat_lt (twice nat_eq (numbers packets))) ∷
    option_map Missing (least nat_lt (absent base (numbers packets))) ∷
    least_place_fault table packets ∷
    option_map DoublePage (least place_lt (twice place_eq (places_of (all_round_pages table records packets)))) ∷ [])
