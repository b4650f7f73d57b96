-- The pages of a packet: where they lie, and that its two halves are all of them.
use Rattle.std.proofs.Common.{ℕ, ◌≡◌, ◌+◌, ◌-◌, ◌<◌, ◌≤◌, ◌/◌, ◌%◌, ◌∙◌, List, [], ◌++◌, length, map, get_or}
use Rattle.std.proofs.Common.{refl, sym, ap, inl, inr, arith, Option, Some, None, Bool, false}
use Rattle.std.specs.Prelude.{◌==◌, not, nat_le, nat_lt, position, bytes_eq}
use Rattle.std.specs.Option.{unwrap_or, option_map}
use Rattle.std.specs.List.{range_with_len, position_or_len, All}
use Rattle.std.proofs.lemmas.Bool.{cases_Bool, cases_lt, cond-true, cond-false, or_parts, eqb-true, ne_eqb, ltb-false, leb-false}
use Rattle.std.proofs.lemmas.List.{length-append, length-map, nil_from_length, get_or_append_left}
use Rattle.std.proofs.Math.Seq.{get_or-append_right}
use Rattle.std.proofs.lemmas.List.FromFn.{length-range_with_len, get_or-map-range_with_len}
use Rattle.std.proofs.lemmas.List.Sums.{fails_before_first}
use Rattle.std.proofs.lemmas.List.Quantifiers.{position-Some}
use Rattle.mig_mem.specs.RamTable.{RamTable, Block, block, block_of}
use Rattle.mig_mem.specs.Place.{IsPlace, place_at}
use Rattle.mig_mem.specs.Image.{Page, Image, zero_page}
use Rattle.mig_mem.specs.Round.{with_round}
use Rattle.mig_mem.proofs.Members.{map-map}
use Rattle.mig_packet.specs.Packet.{NormalPage, Fields, fields_of, normal_count, zero_count, offset_at, content_at}
use Rattle.mig_assemble.specs.declared.fault.RoundFault.TheVariants.{Offset}
use Rattle.mig_assemble.specs.Judging.{offsets, is_outside, offset_fault, place_fault, page_in, pages_in, packet_pages}
use Rattle.mig_assemble.specs.PacketPages.{normal_pages, zero_pages, LiesIn}
use Rattle.mig_assemble.proofs.Putting.{put_after}

-- ---- the offsets

-- a packet has an offset for each page, with contents or of zeros
pub count_of_offsets : (packet : Fields) → length (offsets packet) ≡ length packet.normal + length packet.zero
count_of_offsets packet =
    length-append (map (λ (page : NormalPage). page.offset) packet.normal) packet.zero
    ∙ ap (λ (n : ℕ). n + length packet.zero) (length-map packet.normal (λ (page : NormalPage). page.offset))

normal_at : ℕ → List ℕ → ℕ → NormalPage
normal_at size bytes i = record { offset = offset_at bytes i; content = content_at size bytes i }

-- the fields of a packet have as many offsets as its bytes say
pub count_in_bytes : (size : ℕ) (bytes : List ℕ) → length (offsets (fields_of size bytes)) ≡ normal_count bytes + zero_count bytes
unfolding normal_at
count_in_bytes size bytes =
    count_of_offsets (fields_of size bytes)
    ∙ ap (λ (n : ℕ). n + length (fields_of size bytes).zero)
    (length-map (range_with_len 0 (normal_count bytes)) (normal_at size bytes) ∙ length-range_with_len 0 (normal_count bytes))
    ∙ ap (λ (n : ℕ). normal_count bytes + n)
    (length-map (range_with_len (normal_count bytes) (zero_count bytes)) (offset_at bytes) ∙ length-range_with_len (normal_count bytes) (zero_count bytes))

-- an offset of the fields is the number at its place in the bytes
pub offset_in_bytes : (size : ℕ) (bytes : List ℕ) (i : ℕ) → i < normal_count bytes + zero_count bytes
    → get_or (offsets (fields_of size bytes)) i 0 ≡ offset_at bytes i
unfolding normal_at
offset_in_bytes size bytes i lt =
    let n : ℕ = normal_count bytes in
    let first : List ℕ = map (λ (page : NormalPage). page.offset) (fields_of size bytes).normal in
    let second : List ℕ = map (offset_at bytes) (range_with_len n (zero_count bytes)) in
    let first_is : first ≡ map (offset_at bytes) (range_with_len 0 n) =
    map-map (λ (page : NormalPage). page.offset) (normal_at size bytes) (range_with_len 0 n) in
    let len : length first ≡ n = ap (λ (l : List ℕ). length l) first_is ∙ length-map (range_with_len 0 n) (offset_at bytes) ∙ length-range_with_len 0 n in
    elim (cases_lt i n) [
      | inl low ↦ get_or_append_left first second 0 i (omega (arith, len, low)) ∙ ap (λ (l : List ℕ). get_or l i 0) first_is
          ∙ get_or-map-range_with_len (offset_at bytes) 0 n i i 0 low (omega arith)
      | inr high ↦ get_or-append_right first second i 0 (omega (arith, len, high)) ∙ ap (λ (k : ℕ). get_or second (i - k) 0) len
          ∙ get_or-map-range_with_len (offset_at bytes) n (zero_count bytes) (i - n) i 0 (omega (arith, high, lt)) (omega (arith, high))
    ]

-- ---- no page

-- a packet without offsets has no pages
pub no_pages : (table : RamTable) (packet : Fields) → length (offsets packet) ≡ 0 → packet_pages table packet ≡ []
no_pages table packet none =
    let count : length packet.normal + length packet.zero ≡ 0 = sym (count_of_offsets packet) ∙ none in
    let no_normal : packet.normal ≡ [] = nil_from_length packet.normal (omega (arith, count)) in
    let no_zero : packet.zero ≡ [] = nil_from_length packet.zero (omega (arith, count)) in
    let b : ℕ = unwrap_or (block_of table.blocks packet.id) 0 in
    ap (λ (l : List NormalPage). map (λ (page : NormalPage). page_in table b page.offset page.content) l ++ zero_pages table b packet) no_normal
    ∙ ap (λ (l : List ℕ). map (λ (offset : ℕ). page_in table b offset (zero_page table.page_size)) l) no_zero

-- a packet whose pages lie right and whose id is no block's has none
pub unknown_has_none : (table : RamTable) (packet : Fields) → place_fault table packet ≡ None → block_of table.blocks packet.id ≡ None
    → packet_pages table packet ≡ []
unknown_has_none table packet right unknown =
    no_pages table packet (elim (cases_Bool (length (offsets packet) == 0)) [
      | inl t ↦ eqb-true (length (offsets packet)) 0 t
      | inr f ↦ absurd (let fault = sym right ∙ cond-false (length (offsets packet) == 0) None (offset_fault table packet (block_of table.blocks packet.id)) f
          ∙ ap (offset_fault table packet) unknown in cc)
    ])

-- ---- pages that lie right

-- an offset that isn't outside of its block is a place of the table
pub not_outside : (table : RamTable) (b offset : ℕ) → b < length table.blocks → is_outside table.page_size (block table.blocks b).pages offset ≡ false
    → IsPlace table (place_at b (offset / table.page_size))
not_outside table b offset known inside =
    let parts = or_parts (not (offset % table.page_size == 0)) (nat_le (block table.blocks b).pages (offset / table.page_size)) inside in
    record { has_block = known; has_page = leb-false (block table.blocks b).pages (offset / table.page_size) parts.1 }

-- if there is no number of a first element that passes, none passes
pub position_none : {X : Type 0} (p : X → Bool) (xs : List X) → position p xs ≡ None → All (λ x. p x ≡ false) xs
position_none p xs none k d lt =
    fails_before_first p xs k d (elim (cases_Bool (nat_lt (position_or_len p xs) (length xs))) [
      | inl t ↦ absurd (let found = sym none ∙ cond-true (nat_lt (position_or_len p xs) (length xs)) (Some (position_or_len p xs)) None t in cc)
      | inr f ↦ let past : length xs ≤ position_or_len p xs = ltb-false (position_or_len p xs) (length xs) f in omega (arith, past, lt)
    ])

-- a packet without a fault of offsets has none outside of its block
pub offset_fault_none : (table : RamTable) (packet : Fields) (b : ℕ) → offset_fault table packet (Some b) ≡ None
    → position (is_outside table.page_size (block table.blocks b).pages) (offsets packet) ≡ None
offset_fault_none table packet b right = go (position (is_outside table.page_size (block table.blocks b).pages) (offsets packet)) right
  where
    go : (o : Option ℕ) → option_map (Offset packet.number) o ≡ None → o ≡ None
    go None e = refl
    go (Some i) e = absurd cc

-- each page of a packet whose pages lie right is a page of the block that the packet names
pub right_offsets : (table : RamTable) (packet : Fields) (b : ℕ) → place_fault table packet ≡ None → block_of table.blocks packet.id ≡ Some b
    → All (λ offset. IsPlace table (place_at b (offset / table.page_size))) (offsets packet)
right_offsets table packet b right names k d lt =
    let known : b < length table.blocks = (position-Some (λ (e : Block). bytes_eq e.id packet.id) table.blocks b (block table.blocks b) names).0 in
    let some : (length (offsets packet) == 0) ≡ false = ne_eqb (length (offsets packet)) 0 (λ e. omega (arith, e, lt)) in
    let fault : offset_fault table packet (Some b) ≡ None =
    ap (offset_fault table packet) (sym names)
    ∙ sym (cond-false (length (offsets packet) == 0) None (offset_fault table packet (block_of table.blocks packet.id)) some) ∙ right in
    not_outside table b (get_or (offsets packet) k d) known
    (position_none (is_outside table.page_size (block table.blocks b).pages) (offsets packet) (offset_fault_none table packet b fault) k d lt)

-- a packet without a fault of places lies in the block that it names
pub lies : (table : RamTable) (size : ℕ) (bytes : List ℕ) (b : ℕ) → place_fault table (fields_of size bytes) ≡ None
    → block_of table.blocks (fields_of size bytes).id ≡ Some b → LiesIn table b bytes
lies table size bytes b right names i lt =
    let len : i < length (offsets (fields_of size bytes)) = rw (count_in_bytes size bytes) lt in
    let there : IsPlace table (place_at b (get_or (offsets (fields_of size bytes)) i 0 / table.page_size)) =
    right_offsets table (fields_of size bytes) b right names i 0 len in
    rw (offset_in_bytes size bytes i lt) at there

-- the place that is written
pub place_there : (table here : RamTable) (b : ℕ) (bytes : List ℕ) (i offset size : ℕ) → here ≡ table → LiesIn table b bytes
    → i < normal_count bytes + zero_count bytes
    → offset ≡ offset_at bytes i → size ≡ table.page_size → IsPlace here (place_at b (offset / size))
place_there table here b bytes i offset size same all lt is_offset is_size = rw (same, is_offset, is_size) (all i lt)

-- the place of a page is computed of its offset and the page size alone
pub place_is : (table : RamTable) (b : ℕ) (bytes : List ℕ) (i offset size : ℕ) → offset ≡ offset_at bytes i → size ≡ table.page_size
    → place_at b (offset / size) ≡ place_at b (offset_at bytes i / table.page_size)
place_is table b bytes i offset size is_offset is_size = rw (is_offset, is_size) refl

-- ---- the two halves

-- the page of a number, of the normal ones and of all zero ones
abbrev pub normal_page_at : RamTable → ℕ → ℕ → List ℕ → ℕ → Page
normal_page_at table b size bytes i = page_in table b (offset_at bytes i) (content_at size bytes i)

abbrev pub zero_page_at : RamTable → ℕ → List ℕ → ℕ → Page
zero_page_at table b bytes i = page_in table b (offset_at bytes i) (zero_page table.page_size)

-- the pages of a packet with contents, by their numbers in it, are those of its fields
pub normal_by_number : (table : RamTable) (b size : ℕ) (bytes : List ℕ)
    → map (normal_page_at table b size bytes) (range_with_len 0 (normal_count bytes)) ≡ normal_pages table b (fields_of size bytes)
unfolding normal_at
normal_by_number table b size bytes =
    sym (map-map (λ (page : NormalPage). page_in table b page.offset page.content) (normal_at size bytes) (range_with_len 0 (normal_count bytes)))

-- the pages of zeros of a packet, by their numbers in it, are those of its fields
pub zero_by_number : (table : RamTable) (b size : ℕ) (bytes : List ℕ)
    → map (zero_page_at table b bytes) (range_with_len (normal_count bytes) (zero_count bytes)) ≡ zero_pages table b (fields_of size bytes)
zero_by_number table b size bytes =
    sym (map-map (λ (offset : ℕ). page_in table b offset (zero_page table.page_size)) (offset_at bytes)
    (range_with_len (normal_count bytes) (zero_count bytes)))

-- one half after the other
pub put_halves : (m0 m1 m2 : Image) (packet : Fields) (b : ℕ) → block_of m0.table.blocks packet.id ≡ Some b
    → m1 ≡ with_round m0 (normal_pages m0.table b packet) → m2 ≡ with_round m1 (zero_pages m1.table b packet)
    → m2 ≡ with_round m0 (packet_pages m0.table packet)
put_halves m0 m1 m2 packet b names first second =
    second
    ∙ ap (λ (m : Image). with_round m (zero_pages m.table b packet)) first
    ∙ put_after m0 (normal_pages m0.table b packet) (zero_pages m0.table b packet)
    ∙ ap (λ (o : Option ℕ). with_round m0 (pages_in m0.table packet (unwrap_or o 0))) (sym names)
