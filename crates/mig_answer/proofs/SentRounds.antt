-- The rounds of a sending, as a load finds them: each is lawful, and brings what was sent of it.
use Rattle.std.proofs.Common.{ℕ, zero, suc, ◌≡◌, ◌+◌, ◌<◌, ◌≤◌, ◌^◌, List, [], ◌∷◌, ◌++◌, length, map, take, get_or, refl, sym, ap, ◌∙◌, None, subst, arith}
use Rattle.std.proofs.Common.{flat_map, sum_by}
use Rattle.std.specs.List.{All, range_with_len}
use Rattle.std.proofs.lemmas.List.{length-map, length-append, get_or-map, get_or-replicate, map-id, take_more, take_all}
use Rattle.std.proofs.lemmas.List.Concat.{flat_map-cons}
use Rattle.std.proofs.lemmas.List.Elements.{All-get_or}
use Rattle.std.proofs.lemmas.List.FromFn.{map-range_with_len_more}
use Rattle.std.proofs.lemmas.List.Sums.{sum_by-cons, sum_by_more, sum_by_more_le, sum_by-append}
use Rattle.mig_mem.specs.RamTable.{RamTable}
use Rattle.mig_mem.specs.Image.{Page, Image, zero_image}
use Rattle.mig_mem.specs.Round.{round_of, after, with_round}
use Rattle.mig_mem.specs.Tracking.{Snapshot}
use Rattle.mig_mem.proofs.Rounds.{after-push}
use Rattle.mig_stream.specs.PageRecord.{PageRecord, page_of}
use Rattle.mig_stream.specs.Reading.{StreamReading}
use Rattle.mig_packet.specs.Packet.{Fields, fields_of}
use Rattle.mig_packet.specs.Reading.{ChannelReading}
use Rattle.mig_assemble.specs.Judging.{refusal, all_round_pages, packet_pages}
use Rattle.mig_assemble.proofs.Bags.{SameBag, bag_permutation, bag_flat_map, bag_length, bag_trans}
use Rattle.mig_assemble.proofs.OrderFree.{refusal_bag}
use Rattle.mig_send.specs.Work.{Share}
use Rattle.mig_send.specs.DealtRounds.{DealtRound, IsDealtRound, AreNumbered, packet_count, no_share}
use Rattle.mig_send.specs.ReadBack.{channel_told, round_packets}
use Rattle.mig_answer.specs.Texts.{Readings}
use Rattle.mig_answer.specs.Rounds.{record_pages_at, channel_packets_at, packets_at, packet_count_at, base_at, refusal_of, pages_at}
use Rattle.mig_answer.specs.Dealt.{share_fields, dealt_fields, dealt_pages}
use Rattle.mig_answer.specs.Sent.{sent_rounds}
use Rattle.mig_answer.proofs.DealtPages.{same_last, same_memory}
use Rattle.mig_answer.proofs.Dealt.{IsBrought}
use Rattle.mig_answer.proofs.Sent.{AreToldOf}

-- what stands after the last round
abbrev pub no_round : RamTable → DealtRound
no_round table = record { snapshot = record { image = zero_image table; dirty = [] }; batches = []; base = 0; shares = [] }

abbrev pub round_at : RamTable → List DealtRound → ℕ → DealtRound
round_at table rounds k = get_or rounds k (no_round table)

-- These are the readings of a sending: rounds that were dealt, with numbers that fit, over this
-- many channels.
pub record AreOfSending (table : RamTable) (limit channels : ℕ) (rounds : List DealtRound) (readings : Readings) : Type 0 where
  pub told : AreToldOf table channels rounds readings
  pub are_dealt : All (IsDealtRound table limit channels) rounds
  pub are_numbered : AreNumbered 0 rounds
  pub are_brought : (k : ℕ) → k < length rounds → IsBrought table (round_at table rounds k)

-- ---- the packets of a round

-- a round is numbered after the packets of those before it
numbered : (from : ℕ) (rounds : List DealtRound) (k : ℕ) (d : DealtRound) → AreNumbered from rounds → k < length rounds
    → (get_or rounds k d).base ≡ from + sum_by packet_count (take k rounds)
numbered from [] k d are below = absurd (omega (arith, below))
numbered from (r ∷ rounds) zero d are below = let e : from ≡ from + 0 = omega arith in are.0 ∙ e
numbered from (r ∷ rounds) (suc k) d are below =
    let rest = numbered (from + packet_count r) rounds k d are.1 (omega (arith, below)) in
    let more = sum_by-cons packet_count r (take k rounds) in omega (arith, rest, more)

-- so all its numbers fit, if the sum of all counts does
pub fits : (rounds : List DealtRound) (k : ℕ) (d : DealtRound) → AreNumbered 0 rounds → k < length rounds → sum_by packet_count rounds < 2 ^ 64
    → (get_or rounds k d).base + packet_count (get_or rounds k d) ≤ 2 ^ 64
fits rounds k d are below few =
    let base = numbered 0 rounds k d are below in
    let part = sum_by_more_le packet_count rounds k d below in omega (arith, base, part, few)

-- what a channel's packets of a round say
channel_says : (table : RamTable) (limit channels : ℕ) (rounds : List DealtRound) (readings : Readings) → AreOfSending table limit channels rounds readings
    → (k i : ℕ) → k < length rounds
    → channel_packets_at table.page_size k (channel_told rounds i) ≡ share_fields (round_at table rounds k) (get_or (round_at table rounds k).shares i no_share)
channel_says table limit channels rounds readings is k i below =
    let round : DealtRound = round_at table rounds k in
    let dealt : IsDealtRound table limit channels round = All-get_or (IsDealtRound table limit channels) rounds k (no_round table) below is.are_dealt in
    ap (λ (packets : List (List ℕ)). map (fields_of table.page_size) packets) (get_or-map (round_packets i) rounds k (no_round table) [] below)
    ∙ ap (λ (t : RamTable). map (fields_of t.page_size) (round_packets i round)) (sym dealt.has_table)

-- what all channels' packets of it say, channel after channel
channels_say : (page_size k n : ℕ) (told : ℕ → ChannelReading) (round : DealtRound) (shares : List Share)
    → ((i j : ℕ) → i < length shares → n + i ≡ j → channel_packets_at page_size k (told j) ≡ share_fields round (get_or shares i no_share))
    → flat_map (channel_packets_at page_size k) (map told (range_with_len n (length shares))) ≡ flat_map (share_fields round) shares
channels_say page_size k n told round [] each = refl
channels_say page_size k n told round (share ∷ shares) each =
    let later : List ChannelReading = map told (range_with_len (n + 1) (length shares)) in
    flat_map-cons (channel_packets_at page_size k) (told n) later
    ∙ ap (λ (l : List Fields). l ++ flat_map (channel_packets_at page_size k) later) (each 0 n (omega arith) (omega arith))
    ∙ ap (λ (l : List Fields). share_fields round share ++ l)
    (channels_say page_size k (n + 1) told round shares (λ i j below at. each (suc i) j (omega (arith, below)) (omega (arith, at))))
    ∙ sym (flat_map-cons (share_fields round) share shares)

bag_sym : {X : Type 0} (xs ys : List X) → SameBag xs ys → SameBag ys xs
bag_sym xs ys bag = record { there = bag.back; back = bag.there; sums = λ f. sym (bag.sums f) }

-- the packets of a round are those that were dealt, in some order
packets_bag : (table : RamTable) (limit channels : ℕ) (rounds : List DealtRound) (readings : Readings) → AreOfSending table limit channels rounds readings
    → (k : ℕ) → k < length rounds → SameBag (dealt_fields (round_at table rounds k)) (packets_at table.page_size k readings)
packets_bag table limit channels rounds readings is k below =
    let round : DealtRound = round_at table rounds k in
    let dealt : IsDealtRound table limit channels round = All-get_or (IsDealtRound table limit channels) rounds k (no_round table) below is.are_dealt in
    let told : List ChannelReading = map (channel_told rounds) (range_with_len 0 channels) in
    let same : flat_map (channel_packets_at table.page_size k) told ≡ dealt_fields round =
    ap (λ n. flat_map (channel_packets_at table.page_size k) (map (channel_told rounds) (range_with_len 0 n))) (sym dealt.as_many)
    ∙ channels_say table.page_size k 0 (channel_told rounds) round round.shares (λ i j few at.
    subst (λ x. channel_packets_at table.page_size k (channel_told rounds x) ≡ share_fields round (get_or round.shares i no_share)) (omega (arith, at))
    (channel_says table limit channels rounds readings is k i below)) in
    subst (λ (l : List Fields). SameBag l (packets_at table.page_size k readings)) same
    (bag_flat_map (channel_packets_at table.page_size k) told readings.channels (bag_permutation told readings.channels is.told.has_channels))

-- ---- its numbers

counted : (page_size k : ℕ) (cs : List ChannelReading)
    → sum_by (λ (c : ChannelReading). length (get_or c.rounds k [])) cs ≡ length (flat_map (channel_packets_at page_size k) cs)
counted page_size k [] = refl
counted page_size k (c ∷ cs) =
    sum_by-cons (λ (x : ChannelReading). length (get_or x.rounds k [])) c cs
    ∙ ap (λ n. n + sum_by (λ (x : ChannelReading). length (get_or x.rounds k [])) cs) (sym (length-map (get_or c.rounds k []) (fields_of page_size)))
    ∙ ap (λ n. length (channel_packets_at page_size k c) + n) (counted page_size k cs)
    ∙ sym (length-append (channel_packets_at page_size k c) (flat_map (channel_packets_at page_size k) cs))
    ∙ ap (λ (l : List Fields). length l) (sym (flat_map-cons (channel_packets_at page_size k) c cs))

count_is : (table : RamTable) (limit channels : ℕ) (rounds : List DealtRound) (readings : Readings) → AreOfSending table limit channels rounds readings
    → (k : ℕ) → k < length rounds → packet_count_at k readings ≡ packet_count (round_at table rounds k)
count_is table limit channels rounds readings is k below =
    let round : DealtRound = round_at table rounds k in
    counted table.page_size k readings.channels
    ∙ sym (bag_length (dealt_fields round) (packets_at table.page_size k readings) (packets_bag table limit channels rounds readings is k below))
    ∙ (is.are_brought k below).bring.as_many

bases : (table : RamTable) (limit channels : ℕ) (rounds : List DealtRound) (readings : Readings) → AreOfSending table limit channels rounds readings
    → (k : ℕ) → k ≤ length rounds → base_at k readings ≡ sum_by packet_count (take k rounds)
bases table limit channels rounds readings is zero few = refl
bases table limit channels rounds readings is (suc k) few =
    let count : ℕ → ℕ = λ i. packet_count_at i readings in
    let below : k < length rounds = omega (arith, few) in
    let before = bases table limit channels rounds readings is k (omega (arith, few)) in
    let here = count_is table limit channels rounds readings is k below in
    let mine : base_at (k + 1) readings ≡ base_at k readings + count k = sum_more count k in
    let theirs : sum_by packet_count (take (k + 1) rounds) ≡ sum_by packet_count (take k rounds) + packet_count (round_at table rounds k) =
    sum_by_more packet_count rounds k (no_round table) below in
    let next : suc k ≡ k + 1 = omega arith in
    ap (λ n. base_at n readings) next ∙ mine ∙ ap (λ n. n + count k) before ∙ ap (λ n. sum_by packet_count (take k rounds) + n) here
    ∙ sym theirs ∙ ap (λ n. sum_by packet_count (take n rounds)) (sym next)
  where
    sum_more : (f : ℕ → ℕ) (n : ℕ) → sum_by f (range_with_len 0 (n + 1)) ≡ sum_by f (range_with_len 0 n) + f n
    sum_more f n =
        let e : range_with_len 0 (n + 1) ≡ range_with_len 0 n ++ n ∷ [] =
        sym (map-id (range_with_len 0 (n + 1))) ∙ map-range_with_len_more (λ i. i) 0 n n (omega arith)
        ∙ ap (λ (l : List ℕ). l ++ n ∷ []) (map-id (range_with_len 0 n)) in
        let one : sum_by f (range_with_len 0 n) + (0 + f n) ≡ sum_by f (range_with_len 0 n) + f n = omega arith in
        ap (λ (l : List ℕ). sum_by f l) e ∙ sum_by-append f (range_with_len 0 n) (n ∷ []) ∙ one

-- ---- it is lawful

no_records : (table : RamTable) (limit channels : ℕ) (rounds : List DealtRound) (readings : Readings) → AreOfSending table limit channels rounds readings
    → (k : ℕ) → k < length rounds → record_pages_at table.page_size k readings ≡ []
no_records table limit channels rounds readings is k below =
    ap (λ (r : StreamReading). map (page_of table.page_size) (get_or r.rounds k [])) is.told.has_main
    ∙ ap (λ (l : List PageRecord). map (page_of table.page_size) l) (get_or-replicate (length rounds) k [] [] below)

-- no round of a sending is refused
pub lawful_round : (table : RamTable) (limit channels : ℕ) (rounds : List DealtRound) (readings : Readings) → AreOfSending table limit channels rounds readings
    → (k : ℕ) → k < length rounds → refusal_of table k readings ≡ None
lawful_round table limit channels rounds readings is k below =
    let round : DealtRound = round_at table rounds k in
    let counted = bases table limit channels rounds readings is k (omega (arith, below)) in
    let first = numbered 0 rounds k (no_round table) is.are_numbered below in
    let base : base_at k readings ≡ round.base = omega (arith, counted, first) in
    ap (λ b. refusal table b (record_pages_at table.page_size k readings) (packets_at table.page_size k readings)) base
    ∙ ap (λ (l : List Page). refusal table round.base l (packets_at table.page_size k readings)) (no_records table limit channels rounds readings is k below)
    ∙ sym (refusal_bag table round.base [] (dealt_fields round) (packets_at table.page_size k readings)
    (packets_bag table limit channels rounds readings is k below))
    ∙ (is.are_brought k below).bring.are_lawful

-- ---- and it brings what was sent

-- a round of a sending writes the dirty pages of its snapshot
pub brings : (table : RamTable) (limit channels : ℕ) (rounds : List DealtRound) (readings : Readings) → AreOfSending table limit channels rounds readings
    → (k : ℕ) → k < length rounds → (m : Image)
    → with_round m (pages_at table k readings) ≡ with_round m (round_of (round_at table rounds k).snapshot.image (round_at table rounds k).snapshot.dirty)
brings table limit channels rounds readings is k below m =
    let round : DealtRound = round_at table rounds k in
    let packets : List Fields = packets_at table.page_size k readings in
    let pages : List Page = all_round_pages table [] packets in
    let own : List Page = round_of round.snapshot.image round.snapshot.dirty in
    let order : SameBag pages (dealt_pages table round) =
    bag_flat_map (packet_pages table) packets (dealt_fields round)
    (bag_sym (dealt_fields round) packets (packets_bag table limit channels rounds readings is k below)) in
    let brought : SameBag pages own = bag_trans pages (dealt_pages table round) own order (is.are_brought k below).has_pages in
    ap (λ (l : List Page). with_round m (all_round_pages table l packets)) (no_records table limit channels rounds readings is k below)
    ∙ same_memory m pages own (same_last round.snapshot.image round.snapshot.dirty pages brought)

-- the memory after the first rounds of the readings is that after the first ones sent
memories : (table : RamTable) (limit channels : ℕ) (rounds : List DealtRound) (readings : Readings) → AreOfSending table limit channels rounds readings
    → (k : ℕ) → k ≤ length rounds → after table (map (λ i. pages_at table i readings) (range_with_len 0 k)) ≡ after table (take k (sent_rounds rounds))
memories table limit channels rounds readings is zero few = refl
memories table limit channels rounds readings is (suc k) few =
    let pages : ℕ → List Page = λ i. pages_at table i readings in
    let before : List (List Page) = map pages (range_with_len 0 k) in
    let sent : List (List Page) = sent_rounds rounds in
    let round : DealtRound = round_at table rounds k in
    let below : k < length rounds = omega (arith, few) in
    let own : List Page = round_of round.snapshot.image round.snapshot.dirty in
    let next : suc k ≡ k + 1 = omega arith in
    let mine : map pages (range_with_len 0 (k + 1)) ≡ before ++ pages k ∷ [] = map-range_with_len_more pages 0 k k (omega arith) in
    let snapshots : List Snapshot = map (λ (r : DealtRound). r.snapshot) rounds in
    let many : length snapshots ≡ length rounds = length-map rounds (λ (r : DealtRound). r.snapshot) in
    let long : length sent ≡ length snapshots = length-map snapshots (λ (s : Snapshot). round_of s.image s.dirty) in
    let at : get_or sent k [] ≡ own =
    get_or-map (λ (s : Snapshot). round_of s.image s.dirty) snapshots k (no_round table).snapshot [] (omega (arith, below, many))
    ∙ ap (λ (s : Snapshot). round_of s.image s.dirty) (get_or-map (λ (r : DealtRound). r.snapshot) rounds k (no_round table) (no_round table).snapshot below) in
    let theirs : take (k + 1) sent ≡ take k sent ++ own ∷ [] = take_more sent k [] (omega (arith, below, many, long))
    ∙ ap (λ (l : List Page). take k sent ++ l ∷ []) at in
    ap (λ n. after table (map pages (range_with_len 0 n))) next
    ∙ ap (λ (l : List (List Page)). after table l) mine ∙ after-push table before (pages k)
    ∙ ap (λ (m : Image). with_round (record m { table = table }) (pages k)) (memories table limit channels rounds readings is k (omega (arith, few)))
    ∙ brings table limit channels rounds readings is k below (after table (take k sent))
    ∙ sym (after-push table (take k sent) own) ∙ ap (λ (l : List (List Page)). after table l) (sym theirs)
    ∙ ap (λ n. after table (take n sent)) (sym next)

-- the memory after the rounds that were read is the one after those that were sent
pub memory_is : (table : RamTable) (limit channels : ℕ) (rounds : List DealtRound) (readings : Readings) → AreOfSending table limit channels rounds readings
    → after table (map (λ i. pages_at table i readings) (range_with_len 0 (length rounds))) ≡ after table (sent_rounds rounds)
memory_is table limit channels rounds readings is =
    let snapshots : List Snapshot = map (λ (r : DealtRound). r.snapshot) rounds in
    let many : length snapshots ≡ length rounds = length-map rounds (λ (r : DealtRound). r.snapshot) in
    let long : length (sent_rounds rounds) ≡ length snapshots = length-map snapshots (λ (s : Snapshot). round_of s.image s.dirty) in
    memories table limit channels rounds readings is (length rounds) (omega arith)
    ∙ ap (λ (l : List (List Page)). after table l) (take_all (length rounds) (sent_rounds rounds) (omega (arith, many, long)))
