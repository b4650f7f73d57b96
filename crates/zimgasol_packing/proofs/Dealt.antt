-- Packets of a memory's pages are a sending.
use Rattle.std.proofs.Common.{ℕ, zero, suc, ◌≡◌, ◌+◌, ◌-◌, ◌<◌, ◌≤◌, Bool, ◌==◌, List, [], ◌∷◌, ◌++◌, length, map, get_or}
use Rattle.std.proofs.Common.{refl, sym, ap, ap₂, subst, ◌∙◌, inl, inr, arith, append_assoc}
use Rattle.std.specs.Prelude.{count_by, sum_by, IsTrue}
use Rattle.std.specs.List.{flat_map, range_with_len, All, AllPairs}
use Rattle.std.proofs.lemmas.List.{append-nil, map-append, length-map, get_or-map}
use Rattle.std.proofs.lemmas.List.Elements.{All-nil, All-cons, All-head, All-tail, All-map, All-filter, All-weaker, All-from_get_or}
use Rattle.std.proofs.lemmas.List.Folds.{flat_map-map}
use Rattle.std.proofs.lemmas.List.FromFn.{get_or-range_with_len, length-map-range_with_len, get_or-map-range_with_len}
use Rattle.std.proofs.lemmas.List.Kept.{AllPairs-cons, AllPairs-filter}
use Rattle.mig_mem.specs.declared.place.Place.{Place}
use Rattle.mig_mem.specs.RamTable.{RamTable, block, IsTable}
use Rattle.mig_mem.specs.Place.{IsPlace, place_at, place_lt}
use Rattle.mig_mem.specs.PlaceSet.{IsPlaceSet}
use Rattle.mig_mem.specs.Image.{Page, Image, content_at, pages_of}
use Rattle.mig_mem.specs.Round.{round_of}
use Rattle.mig_mem.proofs.Lists.{pairs_tail}
use Rattle.mig_mem.proofs.Members.{map_agree, map-map, All-range}
use Rattle.mig_mem.proofs.PlaceOrder.{place_lt-true}
use Rattle.mig_packet.specs.PageSize.{IsPageSize, page_limit}
use Rattle.mig_packet.specs.Hello.{written_hello}
use Rattle.mig_deal.specs.Deal.{HasEachOnce}
use Rattle.mig_deal.proofs.Counts.{count_by-flat_map, each_once}
use Rattle.mig_send.specs.Batches.{BatchOfPages, batch_places, IsCut}
use Rattle.mig_send.specs.Packing.{packet_of}
use Rattle.mig_send.specs.Work.{Share, no_batch, claimed_packet}
use Rattle.mig_send.specs.Dealing.{IsDealing, sync_packet, share_text}
use Rattle.mig_send.specs.DealtRounds.{IsDealtRound, packet_count, no_share, round_text, channel_text}
use Rattle.zimgasol_packing.specs.Packets.{Packet, packet_bytes, AreOfBlock, IsPacket, AreFull, ArePackets, carried, ended_text}
use Rattle.zimgasol_packing.specs.Dealt.{batch_of, first_share, share_of, first_round, second_round, both_rounds, PacketsAreASending}
use Rattle.zimgasol_packing.proofs.Lists.{all_first, all_second, pairs_head, pairs_second, pairs_map, pairs_unmap, run_rises, run_shifted, sorted_pass}

abbrev place_in : Page → Place
place_in x = x.place

abbrev page_in : Page → ℕ
page_in x = x.place.page

abbrev all_of : List Packet → List Page
all_of packets = flat_map (λ (packet : Packet). packet.pages) packets

abbrev number_of : Packet → ℕ
number_of packet = packet.number

-- ---- the places of packets

of_block : (b : ℕ) (pages : List Page) → AreOfBlock b pages → map (place_at b) (map page_in pages) ≡ map place_in pages
of_block b [] all = refl
of_block b (x ∷ pages) all =
    let here : x.place.block ≡ b = All-head (λ page. page.place.block ≡ b) x pages all in
    ap (λ (n : ℕ). place_at n x.place.page ∷ map (place_at b) (map page_in pages)) (sym here)
    ∙ ap (λ (l : List Place). x.place ∷ l) (of_block b pages (All-tail (λ page. page.place.block ≡ b) x pages all))

batches_places : (table : RamTable) (n : ℕ) (packets : List Packet) → All (IsPacket table n) packets
    → flat_map batch_places (map batch_of packets) ≡ map place_in (all_of packets)
batches_places table n [] all = refl
batches_places table n (p ∷ packets) all =
    let here = All-head (IsPacket table n) p packets all in
    ap (λ (l : List Place). batch_places (batch_of p) ++ l) (batches_places table n packets (All-tail (IsPacket table n) p packets all))
    ∙ ap (λ (l : List Place). l ++ map place_in (all_of packets)) (of_block p.block p.pages here.are_of_block)
    ∙ sym (map-append place_in p.pages (all_of packets))

-- the places of a round are those that it was made of
round_places : (m : Image) (dirty : List Place) → map place_in (round_of m dirty) ≡ dirty
unfolding pages_of
round_places m [] = refl
round_places m (p ∷ dirty) = ap (λ (l : List Place). p ∷ l) (round_places m dirty)

-- its pages have their contents
abbrev HasContent : Image → Page → Type 0
HasContent m x = x.content ≡ content_at m x.place

round_contents : (m : Image) (dirty : List Place) → All (HasContent m) (round_of m dirty)
unfolding pages_of
round_contents m [] = All-nil (HasContent m)
round_contents m (p ∷ dirty) =
    All-cons (HasContent m) (record { place = p; content = content_at m p }) (round_of m dirty) refl (round_contents m dirty)

-- pages that have their contents are the round of their places
round_again : (m : Image) (pages : List Page) → All (HasContent m) pages → round_of m (map place_in pages) ≡ pages
unfolding pages_of
round_again m [] all = refl
round_again m (x ∷ pages) all =
    let here : x.content ≡ content_at m x.place = All-head (HasContent m) x pages all in
    let one : Page = record { place = x.place; content = content_at m x.place } in
    ap (λ (c : List ℕ). record { place = x.place; content = c } ∷ round_of m (map place_in pages)) (sym here)
    ∙ ap (λ (l : List Page). x ∷ l) (round_again m pages (All-tail (HasContent m) x pages all))

each_contents : (m : Image) (packets : List Packet) → All (HasContent m) (all_of packets) → All (λ (p : Packet). All (HasContent m) p.pages) packets
each_contents m [] all = All-nil (λ (p : Packet). All (HasContent m) p.pages)
each_contents m (p ∷ packets) all =
    All-cons (λ (p : Packet). All (HasContent m) p.pages) p packets (all_first (HasContent m) p.pages (all_of packets) all)
    (each_contents m packets (all_second (HasContent m) p.pages (all_of packets) all))

-- ---- the cut

-- blocks don't descend from one place to a later one
abbrev Rise : Place → Place → Type 0
Rise p q = p.block ≤ q.block

place_rise : (p q : Place) → IsTrue (place_lt p q) → Rise p q
place_rise p q lt = elim (place_lt-true p q lt) [ inl less ↦ omega (arith, less) | inr at ↦ let e : p.block ≡ q.block = at.0 in omega (arith, e) ]

first_block : (b k : ℕ) (pages : List Page) (behind : List Place) → 0 < length pages → AreOfBlock k pages
    → All (λ (q : Place). b ≤ q.block) (map place_in pages ++ behind) → b ≤ k
first_block b k [] behind some of all = absurd (omega (arith, some))
first_block b k (x ∷ pages) behind some of all =
    let here : x.place.block ≡ k = All-head (λ page. page.place.block ≡ k) x pages of in
    let low : b ≤ x.place.block = All-head (λ (q : Place). b ≤ q.block) x.place (map place_in pages ++ behind) all in
    omega (arith, here, low)

places_split : (p : Packet) (packets : List Packet) → map place_in (all_of (p ∷ packets)) ≡ map place_in p.pages ++ map place_in (all_of packets)
places_split p packets = map-append place_in p.pages (all_of packets)

later_blocks : (table : RamTable) (n b : ℕ) (packets : List Packet) → All (IsPacket table n) packets
    → All (λ (q : Place). b ≤ q.block) (map place_in (all_of packets)) → All (λ (p : Packet). b ≤ p.block) packets
later_blocks table n b [] are all = All-nil (λ (p : Packet). b ≤ p.block)
later_blocks table n b (p ∷ packets) are all =
    let here = All-head (IsPacket table n) p packets are in
    let both = subst (λ (l : List Place). All (λ (q : Place). b ≤ q.block) l) (places_split p packets) all in
    All-cons (λ (p : Packet). b ≤ p.block) p packets
    (first_block b p.block p.pages (map place_in (all_of packets)) here.has_some here.are_of_block both)
    (later_blocks table n b packets (All-tail (IsPacket table n) p packets are)
    (all_second (λ (q : Place). b ≤ q.block) (map place_in p.pages) (map place_in (all_of packets)) both))

after_first : (k : ℕ) (pages : List Page) (behind : List Place) → 0 < length pages → AreOfBlock k pages → AllPairs Rise (map place_in pages ++ behind)
    → All (λ (q : Place). k ≤ q.block) behind
after_first k [] behind some of pairs = absurd (omega (arith, some))
after_first k (x ∷ pages) behind some of pairs =
    let here : x.place.block ≡ k = All-head (λ page. page.place.block ≡ k) x pages of in
    All-weaker (Rise x.place) (λ (q : Place). k ≤ q.block) (λ q low. omega (arith, here, low)) behind
    (all_second (Rise x.place) (map place_in pages) behind (pairs_head Rise x.place (map place_in pages ++ behind) pairs))

blocks_rise : (table : RamTable) (n : ℕ) (packets : List Packet) → All (IsPacket table n) packets → AllPairs Rise (map place_in (all_of packets))
    → AllPairs (λ (p q : Packet). p.block ≤ q.block) packets
blocks_rise table n [] are pairs = λ i j d before low. absurd (omega (arith, low))
blocks_rise table n (p ∷ packets) are pairs =
    let here = All-head (IsPacket table n) p packets are in
    let rest = All-tail (IsPacket table n) p packets are in
    let both = subst (λ (l : List Place). AllPairs Rise l) (places_split p packets) pairs in
    AllPairs-cons (λ (p q : Packet). p.block ≤ q.block) p packets
    (later_blocks table n p.block packets rest (after_first p.block p.pages (map place_in (all_of packets)) here.has_some here.are_of_block both))
    (blocks_rise table n packets rest (pairs_second Rise (map place_in p.pages) (map place_in (all_of packets)) both))

abbrev IsFullBefore : ℕ → Packet → Packet → Type 0
IsFullBefore limit p q = p.block ≡ q.block → length p.pages ≡ limit

full_pairs : (limit : ℕ) (packets : List Packet) → AllPairs (λ (p q : Packet). p.block ≤ q.block) packets → AreFull limit packets
    → AllPairs (IsFullBefore limit) packets
full_pairs limit [] rise full = λ i j d before low. absurd (omega (arith, low))
full_pairs limit (p ∷ []) rise full =
    AllPairs-cons (IsFullBefore limit) p [] (All-nil (IsFullBefore limit p)) (λ i j d before low. absurd (omega (arith, low)))
full_pairs limit (p ∷ q ∷ packets) rise full =
    let from_p = pairs_head (λ (p q : Packet). p.block ≤ q.block) p (q ∷ packets) rise in
    let pq : p.block ≤ q.block = All-head (λ (q : Packet). p.block ≤ q.block) q packets from_p in
    let rest = pairs_tail (λ (p q : Packet). p.block ≤ q.block) p (q ∷ packets) rise in
    let from_q = pairs_head (λ (p q : Packet). p.block ≤ q.block) q packets rest in
    AllPairs-cons (IsFullBefore limit) p (q ∷ packets)
    (All-cons (IsFullBefore limit p) q packets full.0
    (All-weaker (λ (r : Packet). q.block ≤ r.block) (IsFullBefore limit p) (λ r qr e. full.0 (omega (arith, pq, qr, e))) packets from_q))
    (full_pairs limit (q ∷ packets) rest full.1)

sizes : (table : RamTable) (n : ℕ) (p : Packet) → IsPacket table n p
    → (0 < length (batch_of p).pages) × (length (batch_of p).pages ≤ page_limit table.page_size)
sizes table n p is = (omega (arith, is.has_some, length-map p.pages page_in), omega (arith, is.has_few, length-map p.pages page_in))

are_cut : (m : Image) (n : ℕ) (dirty : List Place) (packets : List Packet) → IsPlaceSet (record { table = m.table; marked = dirty })
    → ArePackets m.table n (round_of m dirty) packets → IsCut (page_limit m.table.page_size) dirty (map batch_of packets)
are_cut m n dirty packets set are =
    let limit : ℕ = page_limit m.table.page_size in
    let places : map place_in (all_of packets) ≡ dirty = ap (λ (l : List Page). map place_in l) are.have_pages ∙ round_places m dirty in
    let rise : AllPairs Rise (map place_in (all_of packets)) =
    subst (λ (l : List Place). AllPairs Rise l) (sym places) (λ i j d before low. place_rise _ _ (set.is_ascending i j d before low)) in
    let full = full_pairs limit packets (blocks_rise m.table n packets are.are_packets rise) are.are_full in
    record {
      has_all = batches_places m.table n packets are.are_packets ∙ places;
      has_sizes = All-map (λ batch. (0 < length batch.pages) × (length batch.pages ≤ limit)) batch_of packets
          (All-weaker (IsPacket m.table n) (λ p. (0 < length (batch_of p).pages) × (length (batch_of p).pages ≤ limit)) (sizes m.table n) packets
          are.are_packets);
      are_full = pairs_map (λ a b. a.block ≡ b.block → length a.pages ≡ limit) batch_of packets
          (λ i j d before low e. length-map _ page_in ∙ full i j d before low e);
    }

-- ---- the dealing

shares_numbers : (n : ℕ) (packets : List Packet)
    → flat_map (λ (share : Share). share.numbers) (map (share_of n packets) (range_with_len 0 n))
    ≡ flat_map (λ (c : ℕ). map number_of (carried c packets)) (range_with_len 0 n)
shares_numbers n packets = flat_map-map (λ (share : Share). share.numbers) (share_of n packets) (range_with_len 0 n)

same_numbers : (table : RamTable) (n : ℕ) (packets : List Packet) → All (IsPacket table n) packets
    → map number_of packets ≡ range_with_len n (length packets) → (test : ℕ → Bool)
    → count_by test (flat_map (λ (share : Share). share.numbers) (map (share_of n packets) (range_with_len 0 n)))
    ≡ count_by test (range_with_len n ((n + length packets) - n))
same_numbers table n packets are numbered test =
    let e : length packets ≡ (n + length packets) - n = omega arith in
    ap (count_by test) (shares_numbers n packets)
    ∙ count_by-flat_map test (λ (c : ℕ). map number_of (carried c packets)) (range_with_len 0 n)
    ∙ sorted_pass (λ (p : Packet). p.channel) number_of test n packets
    (All-weaker (IsPacket table n) (λ (p : Packet). p.channel < n) (λ p is. is.has_channel) packets are)
    ∙ ap (count_by test) (numbered ∙ ap (λ (k : ℕ). range_with_len n k) e)

lasts_are : (n k : ℕ) (packets : List Packet) → n + length packets ≡ k
    → map (λ (share : Share). share.last) (map (share_of n packets) (range_with_len 0 n)) ≡ range_with_len k n
lasts_are n k packets e =
    map-map (λ (share : Share). share.last) (share_of n packets) (range_with_len 0 n)
    ∙ run_shifted (n + length packets) 0 n
    ∙ ap (λ (j : ℕ). range_with_len j n) (let f : (n + length packets) + 0 ≡ k = omega (arith, e) in f)

numbers_rise : (n : ℕ) (packets : List Packet) → map number_of packets ≡ range_with_len n (length packets) → (c : ℕ)
    → AllPairs (λ (a b : ℕ). a < b) (map number_of (carried c packets))
numbers_rise n packets numbered c =
    let rise : AllPairs (λ (a b : ℕ). a < b) (map number_of packets) =
    subst (λ (l : List ℕ). AllPairs (λ (a b : ℕ). a < b) l) (sym numbered) (run_rises n (length packets)) in
    pairs_map (λ (a b : ℕ). a < b) number_of (carried c packets)
    (AllPairs-filter (λ (p q : Packet). p.number < q.number) (λ (p : Packet). p.channel == c) packets
    (pairs_unmap (λ (a b : ℕ). a < b) number_of packets rise))

are_dealt : (table : RamTable) (n : ℕ) (packets : List Packet) → All (IsPacket table n) packets
    → map number_of packets ≡ range_with_len n (length packets) → IsDealing n (length packets) (map (share_of n packets) (range_with_len 0 n))
are_dealt table n packets are numbered =
    let k : ℕ = n + length packets in
    let many : length (map (share_of n packets) (range_with_len 0 n)) ≡ n = length-map-range_with_len (share_of n packets) 0 n in
    let e : n ≡ (k + n) - k = omega arith in
    record {
      has_batches = each_once n k _ (omega arith) (same_numbers table n packets are numbered);
      has_lasts = subst (λ (c : ℕ). HasEachOnce k (k + c) (map (λ (share : Share). share.last) (map (share_of n packets) (range_with_len 0 n)))) (sym many)
          (each_once k (k + n) _ (omega arith) (λ test. ap (count_by test) (lasts_are n k packets refl ∙ ap (λ (c : ℕ). range_with_len k c) e)));
      rise = All-map (λ (share : Share). AllPairs (λ a b. a < b) share.numbers) (share_of n packets) (range_with_len 0 n)
          (All-range (λ (c : ℕ). AllPairs (λ a b. a < b) (map number_of (carried c packets))) 0 n (λ c low high. numbers_rise n packets numbered c));
    }

no_numbers_from : (a n : ℕ) → flat_map (λ (share : Share). share.numbers) (map first_share (range_with_len a n)) ≡ []
no_numbers_from a zero = refl
no_numbers_from a (suc n) = no_numbers_from (a + 1) n

first_lasts : (a n : ℕ) → map (λ (share : Share). share.last) (map first_share (range_with_len a n)) ≡ range_with_len a n
first_lasts a zero = refl
first_lasts a (suc n) = ap (λ (l : List ℕ). a ∷ l) (first_lasts (a + 1) n)

no_numbers : (n : ℕ) → flat_map (λ (share : Share). share.numbers) (map first_share (range_with_len 0 n)) ≡ []
no_numbers n = no_numbers_from 0 n

none_dealt : (n : ℕ) → IsDealing 0 0 (map first_share (range_with_len 0 n))
none_dealt n =
    let shares : List Share = map first_share (range_with_len 0 n) in
    let many : length shares ≡ n = length-map-range_with_len first_share 0 n in
    let lasts : map (λ (share : Share). share.last) shares ≡ range_with_len 0 n = first_lasts 0 n in
    let e : n ≡ (0 + n) - 0 = omega arith in
    record {
      has_batches = each_once 0 0 _ (omega arith) (λ test. ap (count_by test) (no_numbers n));
      has_lasts = subst (λ (c : ℕ). HasEachOnce 0 (0 + c) (map (λ (share : Share). share.last) shares)) (sym many)
          (each_once 0 (0 + n) _ (omega arith) (λ test. ap (count_by test) (lasts ∙ ap (λ (k : ℕ). range_with_len 0 k) e)));
      rise = All-map (λ (share : Share). AllPairs (λ a b. a < b) share.numbers) first_share (range_with_len 0 n)
          (All-range (λ (c : ℕ). AllPairs (λ (a b : ℕ). a < b) []) 0 n (λ c low high i j d before none. absurd (omega (arith, none))));
    }

-- ---- the texts

-- the packet that a number claims is that with this number
abbrev Claims : ℕ → List BatchOfPages → Packet → Type 0
Claims n batches p = get_or batches (p.number - n) no_batch ≡ batch_of p

no_packet : Packet
no_packet = record { number = 0; channel = 0; block = 0; pages = [] }

all_claim : (n : ℕ) (packets : List Packet) → map number_of packets ≡ range_with_len n (length packets) → All (Claims n (map batch_of packets)) packets
all_claim n packets numbered =
    All-from_get_or (Claims n (map batch_of packets)) packets no_packet (λ i low.
    let is : (get_or packets i no_packet).number ≡ n + i =
    sym (get_or-map number_of packets i no_packet 0 low) ∙ ap (λ (l : List ℕ). get_or l i 0) numbered ∙ get_or-range_with_len n (length packets) i 0 low in
    let at : (get_or packets i no_packet).number - n ≡ i = omega (arith, is) in
    ap (λ (k : ℕ). get_or (map batch_of packets) k no_batch) at ∙ get_or-map batch_of packets i no_packet no_batch low)

packet_claimed : (m : Image) (n : ℕ) (batches : List BatchOfPages) (p : Packet) → Claims n batches p → AreOfBlock p.block p.pages → All (HasContent m) p.pages
    → (claimed_packet n m batches p.number).bytes ≡ packet_bytes m.table p
packet_claimed m n batches p claims of contents =
    ap (λ (b : BatchOfPages). packet_of m.table.page_size p.number (block m.table.blocks b.block).id (round_of m (batch_places b))) claims
    ∙ ap (λ (l : List Page). packet_of m.table.page_size p.number (block m.table.blocks p.block).id l)
    (ap (λ (l : List Place). round_of m l) (of_block p.block p.pages of) ∙ round_again m p.pages contents)

-- what is known of each packet
record IsOwn (m : Image) (n : ℕ) (batches : List BatchOfPages) (p : Packet) : Type 0 where
  claims : Claims n batches p
  of : AreOfBlock p.block p.pages
  contents : All (HasContent m) p.pages

all_own : (m : Image) (n : ℕ) (dirty : List Place) (packets : List Packet) → ArePackets m.table n (round_of m dirty) packets
    → All (IsOwn m n (map batch_of packets)) packets
all_own m n dirty packets are =
    let contents = each_contents m packets (subst (λ (l : List Page). All (HasContent m) l) (sym are.have_pages) (round_contents m dirty)) in
    let claim = all_claim n packets are.are_numbered in
    λ i d low. record { claims = claim i d low; of = (are.are_packets i d low).are_of_block; contents = contents i d low }

share_bytes : (m : Image) (n : ℕ) (batches : List BatchOfPages) (packets : List Packet) → All (IsOwn m n batches) packets
    → flat_map (λ number. (claimed_packet n m batches number).bytes) (map number_of packets) ≡ flat_map (packet_bytes m.table) packets
share_bytes m n batches [] own = refl
share_bytes m n batches (p ∷ packets) own =
    let here = All-head (IsOwn m n batches) p packets own in
    ap (λ (l : List ℕ). l ++ flat_map (λ number. (claimed_packet n m batches number).bytes) (map number_of packets))
    (packet_claimed m n batches p here.claims here.of here.contents)
    ∙ ap (λ (l : List ℕ). packet_bytes m.table p ++ l) (share_bytes m n batches packets (All-tail (IsOwn m n batches) p packets own))

channel_has : (m : Image) (uuid : List ℕ) (n : ℕ) (dirty : List Place) (packets : List Packet) → ArePackets m.table n (round_of m dirty) packets
    → (c : ℕ) → c < n → ended_text m.table uuid n packets c ≡ channel_text uuid (both_rounds m dirty n packets) c
channel_has m uuid n dirty packets are c low =
    let size : ℕ = m.table.page_size in
    let own = All-filter (λ (p : Packet). p.channel == c) (IsOwn m n (map batch_of packets)) packets (all_own m n dirty packets are) in
    let one : get_or (map first_share (range_with_len 0 n)) c no_share ≡ first_share c =
    get_or-map-range_with_len first_share 0 n c c no_share low (omega arith) in
    let two : get_or (map (share_of n packets) (range_with_len 0 n)) c no_share ≡ share_of n packets c =
    get_or-map-range_with_len (share_of n packets) 0 n c c no_share low (omega arith) in
    let hello : List ℕ = written_hello uuid c in
    let first : List ℕ = sync_packet size c in
    let carries : List ℕ = flat_map (packet_bytes m.table) (carried c packets) in
    let last : List ℕ = sync_packet size (n + length packets + c) in
    let a : round_text c (first_round m n) ≡ first = ap (λ (s : Share). share_text 0 m [] s) one in
    let b : round_text c (second_round m dirty n packets) ≡ carries ++ last =
    ap (λ (s : Share). share_text n m (map batch_of packets) s) two
    ∙ ap (λ (l : List ℕ). l ++ last) (share_bytes m n (map batch_of packets) (carried c packets) own) in
    append_assoc (hello ++ first) carries last
    ∙ append_assoc hello first (carries ++ last)
    ∙ ap (λ (l : List ℕ). hello ++ l) (ap₂ (λ (x y : List ℕ). x ++ y) (sym a) (sym b ∙ sym (append-nil (round_text c (second_round m dirty n packets)))))

-- ---- the sending

nothing_cut : (limit : ℕ) → IsCut limit [] []
nothing_cut limit = record {
  has_all = refl;
  has_sizes = All-nil (λ batch. (0 < length batch.pages) × (length batch.pages ≤ limit));
  are_full = λ i j d before none. absurd (omega (arith, none));
}

no_places : (table : RamTable) → IsTable table → IsPlaceSet (record { table = table; marked = [] })
no_places table is = record {
  has_table = is;
  is_within = All-nil (IsPlace table);
  is_ascending = λ i j d before none. absurd (omega (arith, none));
}

page_limit_some : (size : ℕ) → IsPageSize size → 0 < page_limit size
page_limit_some size (inl e) = subst (λ (s : ℕ). 0 < page_limit s) (sym e) (omega arith)
page_limit_some size (inr e) = subst (λ (s : ℕ). 0 < page_limit s) (sym e) (omega arith)

packet_counts : (m : Image) (dirty : List Place) (n : ℕ) (packets : List Packet)
    → sum_by packet_count (both_rounds m dirty n packets) ≡ packet_count (first_round m n) + packet_count (second_round m dirty n packets)
packet_counts m dirty n packets = omega arith

pub packets_are_a_sending : PacketsAreASending
packets_are_a_sending name image dirty uuid n packets is_table is_image set long some few are fit =
    let table : RamTable = image.table in
    let limit : ℕ = page_limit table.page_size in
    let k : ℕ = length packets in
    let many : length (map batch_of packets) ≡ k = length-map packets batch_of in
    let one : length (map first_share (range_with_len 0 n)) ≡ n = length-map-range_with_len first_share 0 n in
    let two : length (map (share_of n packets) (range_with_len 0 n)) ≡ n = length-map-range_with_len (share_of n packets) 0 n in
    record {
      is_sending = record {
        is_set = record {
          has_table = is_table;
          has_uuid = long;
          has_channels = (some, few);
          has_limit = (page_limit_some table.page_size is_table.has_page_size, omega arith);
        };
        are_dealt = All-cons (IsDealtRound table limit n) (first_round image n) (second_round image dirty n packets ∷ [])
            (record {
              has_image = is_image;
              has_table = refl;
              has_places = no_places table is_table;
              has_batches = nothing_cut limit;
              has_shares = none_dealt n;
              as_many = one;
            })
            (All-cons (IsDealtRound table limit n) (second_round image dirty n packets) []
            (record {
              has_image = is_image;
              has_table = refl;
              has_places = set;
              has_batches = are_cut image n dirty packets set are;
              has_shares = subst (λ (c : ℕ). IsDealing n c (map (share_of n packets) (range_with_len 0 n))) (sym many)
                  (are_dealt table n packets are.are_packets are.are_numbered);
              as_many = two;
            })
            (All-nil (IsDealtRound table limit n)));
        are_numbered = (refl, ((let e : n ≡ 0 + (0 + length (map first_share (range_with_len 0 n))) = omega (arith, one) in e), tt));
        numbers_fit = omega (arith, many, one, two, fit, packet_counts image dirty n packets);
        has_main = refl;
        has_texts = map_agree (ended_text table uuid n packets) (channel_text uuid (both_rounds image dirty n packets)) (range_with_len 0 n)
            (All-range (λ (c : ℕ). ended_text table uuid n packets c ≡ channel_text uuid (both_rounds image dirty n packets) c) 0 n
            (λ c low high. channel_has image uuid n dirty packets are c (omega (arith, high))));
      };
      has_main = refl;
    }
