-- The current round has the same arrivals if a channel has given the same heads and pages, as at
-- the end of a packet.
use Rattle.std.proofs.Common.{ℕ, ◌≡◌, Bool, true, false, List, [], ◌∷◌, ◌++◌, length, map, Some, None, refl, sym, ap, subst, ◌∙◌, arith}
use Rattle.std.specs.Prelude.{IsPermutation, IsTrue, if◌then◌else◌}
use Rattle.std.specs.List.{flat_map}
use Rattle.std.specs.Option.{unwrap_or}
use Rattle.std.proofs.Math.ListN.{get_or-eq_default}
use Rattle.std.proofs.Math.Seq.{get_or-append_seam}
use Rattle.std.proofs.lemmas.List.{append-nil, map-append}
use Rattle.std.proofs.lemmas.List.Concat.{flat_map-append}
use Rattle.std.proofs.lemmas.List.Elements.{All-weaker}
use Rattle.std.proofs.lemmas.List.Sorted.{IsPermutation-append_left, IsPermutation-append_right, IsPermutation-append_comm, IsPermutation-trans}
use Rattle.mig_mem.specs.declared.place.Place.{Place}
use Rattle.mig_mem.specs.RamTable.{RamTable, block_of}
use Rattle.mig_mem.specs.Place.{has_place}
use Rattle.mig_mem.specs.Image.{Page, Image, zero_page}
use Rattle.mig_packet.specs.Packet.{Fields, NormalPage, fields_of, id_in, is_sync}
use Rattle.mig_packet.specs.Progress.{ChannelProgress, after_packet}
use Rattle.mig_packet.specs.Paging.{OpenPacket, GivenSoFar, IsOpenPacket, Completes, bytes_of}
use Rattle.mig_assemble.specs.Judging.{places_of, packet_pages, pages_in, page_in}
use Rattle.mig_assemble.specs.Arrivals.{OnePacket, packets_in, arrival_pages}
use Rattle.mig_in_place.specs.Named.{round_so_far}
use Rattle.mig_packet.specs.PacketHead.{as_zeros}
use Rattle.mig_in_place.specs.Round.{KeptRound}
use Rattle.mig_in_place.specs.Sources.{HoldsRound, AtChannel, came_with, heads_given, packets_given, pages_given, zeros_begun, normal_begun, block_in}
use Rattle.mig_in_place.specs.Sources.{head_places, named_places}
use Rattle.mig_in_place.proofs.Steps.{in_middle, named_more, channel_places}
use Rattle.mig_packet.proofs.Heads.{zeros_front, zero_offsets_front}

-- ---- the same heads and pages

-- the places that packets of zeros have
abbrev zero_places : RamTable → List Fields → List Place
zero_places table packets = flat_map (λ q. places_of (arrival_pages table (OnePacket q))) packets

places_by : (table : RamTable) (heads : List (List ℕ)) → flat_map (head_places table) heads ≡ zero_places table (map as_zeros heads)
places_by table [] = refl
places_by table (head ∷ heads) = ap (λ (l : List Place). head_places table head ++ l) (places_by table heads)

module _ (f : AtChannel) (table : RamTable) (a b : GivenSoFar) (r : KeptRound) (memory : Image)
    (heads : map as_zeros (heads_given f.k a) ≡ map as_zeros (heads_given f.k b))
    (pages : IsPermutation (pages_given table f.k a) (pages_given table f.k b)) (holds : HoldsRound table f.kept f.k (came_with f a) r memory) where
  same_places : channel_places table f.k a ≡ channel_places table f.k b
  same_places = places_by table (heads_given f.k a) ∙ ap (zero_places table) heads ∙ sym (places_by table (heads_given f.k b))

  same_packets : map as_zeros (flat_map (heads_given f.k) (came_with f a).channels) ≡ map as_zeros (flat_map (heads_given f.k) (came_with f b).channels)
  same_packets =
      let z : List (List ℕ) → List Fields = map as_zeros in
      let A : List (List ℕ) = flat_map (heads_given f.k) f.before in
      let B : List (List ℕ) = flat_map (heads_given f.k) f.after in
      let split : (L : List (List ℕ)) → z (A ++ (L ++ B)) ≡ z A ++ (z L ++ z B) = λ L. map-append as_zeros A (L ++ B)
      ∙ ap (λ (l : List Fields). z A ++ l) (map-append as_zeros L B) in
      ap z (in_middle (heads_given f.k) f.before f.after a) ∙ split (heads_given f.k a)
      ∙ ap (λ (l : List Fields). z A ++ (l ++ z B)) heads
      ∙ sym (split (heads_given f.k b)) ∙ sym (ap z (in_middle (heads_given f.k) f.before f.after b))

  same_pages : IsPermutation (f.records ++ flat_map (pages_given table f.k) (came_with f a).channels)
      (f.records ++ flat_map (pages_given table f.k) (came_with f b).channels)
  same_pages =
      let R : List Page = f.records in
      let A : List Page = flat_map (pages_given table f.k) f.before in
      let B : List Page = flat_map (pages_given table f.k) f.after in
      let H : List Page = pages_given table f.k a in
      let K : List Page = pages_given table f.k b in
      let mid : IsPermutation (R ++ (A ++ (H ++ B))) (R ++ (A ++ (K ++ B))) =
      IsPermutation-append_right R (A ++ (H ++ B)) (A ++ (K ++ B)) (IsPermutation-append_right A (H ++ B) (K ++ B) (IsPermutation-append_left B H K pages)) in
      subst (λ (l : List Page). IsPermutation (R ++ l) (R ++ flat_map (pages_given table f.k) (came_with f b).channels))
      (sym (in_middle (pages_given table f.k) f.before f.after a))
      (subst (λ (l : List Page). IsPermutation (R ++ (A ++ (H ++ B))) (R ++ l)) (sym (in_middle (pages_given table f.k) f.before f.after b)) mid)

  pub same_holds : HoldsRound table f.kept f.k (came_with f b) r memory
  same_holds = record {
    arrivals = holds.arrivals;
    keeps = holds.keeps;
    has_records = holds.has_records;
    has_packets = subst (λ (l : List Fields). IsPermutation (packets_in holds.arrivals) l) same_packets holds.has_packets;
    written = holds.written;
    has_memory = holds.has_memory;
    are_named = All-weaker (λ page. IsTrue (has_place (named_places table f.k (came_with f a)) page.place))
        (λ page. IsTrue (has_place (named_places table f.k (came_with f b)) page.place))
        (λ page t. named_more f table a b page.place
        (λ here. ap (λ (l : List Place). has_place l page.place) (sym same_places) ∙ here) t) holds.written holds.are_named;
    are_all = λ right. IsPermutation-trans holds.written (f.records ++ flat_map (pages_given table f.k) (came_with f a).channels)
        (f.records ++ flat_map (pages_given table f.k) (came_with f b).channels) (holds.are_all right) same_pages;
  }

-- ---- the end of a packet

abbrev contents : OpenPacket → List ℕ
contents p = flat_map (λ page. page.content) p.pages

-- its pages are those that were given
ended_pages : (table : RamTable) (p : OpenPacket) (sync : Bool) → IsOpenPacket table.page_size p → Completes table.page_size p sync
    → IsPermutation (zeros_begun table p.head ++ normal_begun table p) (packet_pages table (fields_of table.page_size (bytes_of p)))
ended_pages table p sync is done =
    let size : ℕ = table.page_size in
    let q : Fields = fields_of size (bytes_of p) in
    let b : ℕ = block_in table p.head in
    let id : id_in (bytes_of p) ≡ id_in p.head = ap (λ (x : Fields). x.id) (zeros_front size p.head (contents p) is.is_head) in
    let block : unwrap_or (block_of table.blocks q.id) 0 ≡ b = ap (λ (i : List ℕ). unwrap_or (block_of table.blocks i) 0) id in
    let normal : q.normal ≡ p.pages = sym (ap (λ (x : Fields). x.normal) done.is_packet.1) ∙ done.has_pages in
    let zero : q.zero ≡ (fields_of size p.head).zero = zero_offsets_front size p.head (contents p) is.is_head in
    let N : List Page = normal_begun table p in
    let Z : List Page = zeros_begun table p.head in
    let here : packet_pages table q ≡ N ++ Z =
    ap (λ (k : ℕ). pages_in table q k) block
    ∙ ap (λ (l : List NormalPage). map (λ x. page_in table b x.offset x.content) l ++ map (λ offset. page_in table b offset (zero_page size)) q.zero) normal
    ∙ ap (λ (l : List ℕ). N ++ map (λ offset. page_in table b offset (zero_page size)) l) zero in
    subst (λ (l : List Page). IsPermutation (Z ++ N) l) (sym here) (IsPermutation-append_comm Z N)

abbrev pub after_by : ChannelProgress → List ℕ → Bool → ChannelProgress
after_by c packet sync =
    if sync then record c { packets = []; rounds = c.rounds ++ (c.packets ++ packet ∷ []) ∷ [] } else record c { packets = c.packets ++ packet ∷ [] }

-- the packets of the round, whether or not the last one ends it
packets_by : (c : ChannelProgress) (packet : List ℕ) (sync : Bool)
    → round_so_far (length c.rounds) (after_by c packet sync).rounds (after_by c packet sync).packets ≡ c.packets ++ packet ∷ []
packets_by c packet true = get_or-append_seam c.rounds (c.packets ++ packet ∷ []) [] []
packets_by c packet false = get_or-eq_default c.rounds (c.packets ++ packet ∷ []) (omega arith)

packets_after : (c : ChannelProgress) (k : ℕ) (packet : List ℕ) → length c.rounds ≡ k
    → round_so_far k (after_packet c packet).rounds (after_packet c packet).packets ≡ c.packets ++ packet ∷ []
packets_after c k packet count =
    ap (λ (n : ℕ). round_so_far n (after_packet c packet).rounds (after_packet c packet).packets) (sym count) ∙ packets_by c packet (is_sync packet)

-- a packet that was begun, and once it has ended
abbrev pub with_open : ChannelProgress → OpenPacket → GivenSoFar
with_open read p = record { read = read; packet = Some p }

abbrev pub with_ended : ChannelProgress → OpenPacket → GivenSoFar
with_ended read p = record { read = after_packet read (bytes_of p); packet = None }

module _ (table : RamTable) (k : ℕ) (read : ChannelProgress) (p : OpenPacket) (sync : Bool) (count : length read.rounds
    ≡ k) (is : IsOpenPacket table.page_size p)
    (done : Completes table.page_size p sync) where
  before : packets_given k (with_open read p) ≡ read.packets
  before = get_or-eq_default read.rounds read.packets (omega (arith, count))

  behind : packets_given k (with_ended read p) ≡ read.packets ++ bytes_of p ∷ []
  behind = packets_after read k (bytes_of p) count

  ended_heads : map as_zeros (heads_given k (with_open read p)) ≡ map as_zeros (heads_given k (with_ended read p))
  ended_heads =
      ap (λ (l : List (List ℕ)). map as_zeros (l ++ p.head ∷ [])) before
      ∙ map-append as_zeros read.packets (p.head ∷ [])
      ∙ ap (λ (q : Fields). map as_zeros read.packets ++ q ∷ []) (sym (zeros_front table.page_size p.head (contents p) is.is_head))
      ∙ sym (map-append as_zeros read.packets (bytes_of p ∷ []))
      ∙ ap (map as_zeros) (sym (append-nil (read.packets ++ bytes_of p ∷ [])))
      ∙ ap (λ (l : List (List ℕ)). map as_zeros (l ++ [])) (sym behind)

  abbrev pages_of : List ℕ → List Page
  pages_of packet = packet_pages table (fields_of table.page_size packet)

  given_pages : IsPermutation (pages_given table k (with_open read p)) (pages_given table k (with_ended read p))
  given_pages =
      let F : List Page = flat_map pages_of read.packets in
      let Z : List Page = zeros_begun table p.head in
      let N : List Page = normal_begun table p in
      let B : List Page = pages_of (bytes_of p) in
      let perm : IsPermutation (F ++ (Z ++ N)) (F ++ B) = IsPermutation-append_right F (Z ++ N) B (ended_pages table p sync is done) in
      let left : pages_given table k (with_open read p) ≡ F ++ (Z ++ N) = ap (λ (l : List (List ℕ)). flat_map pages_of l ++ (Z ++ N)) before in
      let right : pages_given table k (with_ended read p) ≡ F ++ B =
      ap (λ (l : List (List ℕ)). flat_map pages_of l ++ []) behind
      ∙ append-nil (flat_map pages_of (read.packets ++ bytes_of p ∷ []))
      ∙ flat_map-append pages_of read.packets (bytes_of p ∷ [])
      ∙ ap (λ (l : List Page). F ++ l) (append-nil B) in
      subst (λ (l : List Page). IsPermutation l (pages_given table k (with_ended read p))) (sym left)
      (subst (λ (l : List Page). IsPermutation (F ++ (Z ++ N)) l) (sym right) perm)

  pub packet_ends : (f : AtChannel) (r : KeptRound) (memory : Image) → f.k ≡ k → HoldsRound table f.kept f.k (came_with f (with_open read p)) r memory
      → HoldsRound table f.kept f.k (came_with f (with_ended read p)) r memory
  packet_ends f r memory here holds = same_holds f table (with_open read p) (with_ended read p) r memory
      (subst (λ (n : ℕ). map as_zeros (heads_given n (with_open read p)) ≡ map as_zeros (heads_given n (with_ended read p))) (sym here) ended_heads)
      (subst (λ (n : ℕ). IsPermutation (pages_given table n (with_open read p)) (pages_given table n (with_ended read p))) (sym here) given_pages) holds
