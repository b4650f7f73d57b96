-- What the streams of a sending are read as.
use Rattle.std.proofs.Common.{ℕ, ◌≡◌, ◌+◌, ◌-◌, ◌<◌, ◌≤◌, ◌^◌, ◌≢◌, List, [], ◌∷◌, ◌++◌, length, map, get_or, ap, sym, subst, refl, ◌∙◌, arith, zero, suc, inl}
use Rattle.std.proofs.Common.{inr, Bool, true, false, cond, Some, None, append-nil, append_assoc}
use Rattle.std.specs.Prelude.{flat_map, sum_by, ◌==◌, replicate}
use Rattle.std.specs.List.{All, concat}
use Rattle.std.proofs.lemmas.Bool.{cases_lt, lt-leb}
use Rattle.std.proofs.lemmas.Bool.{eq-eqb}
use Rattle.std.proofs.lemmas.List.Elements.{All-nil, All-cons, All-map, All-head, All-tail, All-weaker}
use Rattle.std.proofs.lemmas.List.{length-append, length-map, get_or-map, get_or_append_left}
use Rattle.std.proofs.lemmas.List.Concat.{flat_map-cons}
use Rattle.std.proofs.lemmas.List.Folds.{flat_map-map}
use Rattle.std.proofs.lemmas.List.Sums.{sum_by-cons}
use Rattle.std.proofs.lemmas.List.FromFn.{get_or-map-range_with_len}
use Rattle.mig_mem.specs.RamTable.{RamTable, IsTable, block}
use Rattle.mig_mem.specs.Image.{Image, IsImage}
use Rattle.mig_mem.specs.Round.{round_of}
use Rattle.mig_deal.specs.Deal.{HasEachOnce, times}
use Rattle.mig_deal.proofs.Counts.{count_by-cons}
use Rattle.mig_stream.specs.declared.item.Frame.TheVariants.{Machine}
use Rattle.mig_stream.specs.declared.item.Mode.TheVariants.{Main}
use Rattle.mig_stream.specs.Written.{main, FlushPart}
use Rattle.mig_stream.specs.MachineWritten.{machine_written, MachineMainsAreTexts}
use Rattle.mig_stream.specs.Reading as stream
use Rattle.mig_stream.specs.Law.{SpelledIsRead, MainsAreTexts, closed}
use Rattle.mig_stream.proofs.SpelledMachine.{machine_is_read}
use Rattle.mig_packet.specs.declared.state.ChannelState.TheVariants.{Reading}
use Rattle.mig_packet.specs.PageSize.{IsPageSize, page_limit, head_len}
use Rattle.mig_packet.specs.Hello.{written_hello}
use Rattle.mig_packet.specs.Packet.{IsPacketText, NormalPage, Fields, fields_of, is_sync}
use Rattle.mig_packet.specs.Written.{IsWritable, written_packet}
use Rattle.mig_packet.specs.Progress.{ChannelProgress, start, first_fault, after}
use Rattle.mig_packet.specs.Reading.{Front, Reads, Settings, settings}
use Rattle.mig_packet.specs.ChannelItems.{Hello, Page, Stop}
use Rattle.mig_packet.proofs.Judging.{hello_free, text_free}
use Rattle.mig_packet.proofs.Waiting.{free_within}
use Rattle.mig_packet.proofs.Fronts.{Front-none, Front-push, Front-append, no_head}
use Rattle.mig_packet.proofs.ReadBack.{hello_back, packet_back}
use Rattle.mig_send.specs.Batches.{BatchOfPages, IsBatch, batch_places}
use Rattle.mig_send.specs.Packing.{packed_of, normals_of, zeros_of, offsets_of, contents_of}
use Rattle.mig_send.specs.Work.{Share, no_batch, claimed_packet}
use Rattle.mig_send.specs.Dealing.{sync_packet}
use Rattle.mig_send.specs.DealtRounds.{DealtRound, IsDealtRound, AreNumbered, IsSending, no_share, packet_count, round_text, channel_text}
use Rattle.mig_send.specs.ReadBack.{round_packets, channel_items, SendingsAreReadBack, MachineSendingsAreReadBack, SayTheirPages}
use Rattle.mig_send.proofs.Packing.{is_packed, batch_writable, normal_pages_are}
use Rattle.mig_send.proofs.Cutting.{batches_fit}

-- ---- a channel after its hello

-- a channel that was read so far without a limit: these rounds, and these packets of the next one
abbrev at : Settings → ℕ → List (List (List ℕ)) → List (List ℕ) → ChannelProgress
at given id rounds packets = record {
  page_size = given.page_size;
  uuid = given.uuid;
  channels = given.channels;
  waiting = None;
  hello = Some id;
  packets = packets;
  rounds = rounds;
}

-- a packet with SYNC, or without
abbrev IsPacketWith : ℕ → Bool → List ℕ → Type 0
IsPacketWith page_size sync packet = IsPacketText page_size packet × (is_sync packet ≡ sync)

-- one packet is read
one_packet : (given : Settings) (id : ℕ) (rounds : List (List (List ℕ))) (packets : List (List ℕ)) (packet : List ℕ) → IsPacketText given.page_size packet
    → Front (at given id rounds packets) packet (after (at given id rounds packets) packet)
one_packet given id rounds packets packet is =
    Front-push (at given id rounds packets) (at given id rounds packets) [] packet (Front-none (at given id rounds packets)) is.has_length
    (free_within given.page_size None packet (text_free given.page_size packet is) refl)

-- packets without SYNC are read one after another
packets_read : (given : Settings) (id : ℕ) (rounds : List (List (List ℕ))) (packets more : List (List ℕ)) → All (IsPacketWith given.page_size false) more
    → Front (at given id rounds packets) (concat more) (at given id rounds (packets ++ more))
packets_read given id rounds packets [] all =
    subst (λ (l : List (List ℕ)). Front (at given id rounds packets) [] (at given id rounds l)) (sym (append-nil packets))
    (Front-none (at given id rounds packets))
packets_read given id rounds packets (packet ∷ more) all =
    let is = All-head (IsPacketWith given.page_size false) packet more all in
    let one : Front (at given id rounds packets) packet (at given id rounds (packets ++ packet ∷ [])) =
    rw is.1 at (one_packet given id rounds packets packet is.0) in
    let others = packets_read given id rounds (packets ++ packet ∷ []) more (All-tail (IsPacketWith given.page_size false) packet more all) in
    subst (λ (l : List (List ℕ)). Front (at given id rounds packets) (packet ++ concat more) (at given id rounds l)) (append_assoc packets (packet ∷ []) more)
    (Front-append (at given id rounds packets) (at given id rounds (packets ++ packet ∷ []))
    (at given id rounds ((packets ++ packet ∷ []) ++ more)) packet (concat more) one others)

-- and one with SYNC after them makes a round of them
round_read : (given : Settings) (id : ℕ) (rounds : List (List (List ℕ))) (packets : List (List ℕ)) (last : List ℕ)
    → All (IsPacketWith given.page_size false) packets
    → IsPacketWith given.page_size true last
    → Front (at given id rounds []) (concat packets ++ last) (at given id (rounds ++ (packets ++ last ∷ []) ∷ []) [])
round_read given id rounds packets last all is =
    let one : Front (at given id rounds packets) last (at given id (rounds ++ (packets ++ last ∷ []) ∷ []) []) =
    rw is.1 at (one_packet given id rounds packets last is.0) in
    Front-append (at given id rounds []) (at given id rounds packets) (at given id (rounds ++ (packets ++ last ∷ []) ∷ []) [])
    (concat packets) last (packets_read given id rounds [] packets all) one

-- ---- shares

-- what is written for some fields is a packet with SYNC where they say so
written_is_packet : (page_size number : ℕ) (sync : Bool) (id normal contents zeros : List ℕ) → IsWritable page_size number id normal contents zeros
    → IsPacketWith page_size sync (written_packet page_size number sync id normal contents zeros)
written_is_packet page_size number sync id normal contents zeros is =
    let back = packet_back page_size number sync id normal contents zeros is in
    (back.0, ap (λ (fields : Fields). fields.sync) (sym back.1))

sync_writable : (page_size number : ℕ) → IsPageSize page_size → number < 2 ^ 64 → IsWritable page_size number [] [] [] []
sync_writable page_size number is fits = record {
  has_page_size = is;
  has_number = fits;
  has_offsets = All-nil (λ offset. offset < 2 ^ 64);
  has_few = omega arith;
  has_contents = omega arith;
  has_short_id = omega arith;
  has_whole_id = All-nil (λ byte. byte ≢ 0);
}

batch_is_packet : (image : Image) (batch : BatchOfPages) (number : ℕ) → IsTable image.table → IsImage image → IsBatch image.table batch → number < 2 ^ 64
    → IsPacketWith image.table.page_size false (packed_of image batch number).bytes
batch_is_packet image batch number table is is_batch fits =
    let packed = is_packed image batch number table is is_batch fits in
    subst (IsPacketWith image.table.page_size false) (sym packed.has_bytes)
    (written_is_packet image.table.page_size number false packed.id packed.normal packed.contents packed.zero packed.is_writable)

-- ---- numbers

-- a number that stands in a list is found in it
is_there : (numbers : List ℕ) (i d : ℕ) → i < length numbers → 0 < times (get_or numbers i d) numbers
is_there [] i d lt = absurd (omega (arith, lt))
is_there (n ∷ numbers) zero d lt =
    let here : ◌≡◌ {A = ℕ} (cond (n == n) 1 0) 1 = ap (λ (b : Bool). cond b 1 0) (eq-eqb n n refl) in
    omega (arith, here, count_by-cons (λ other. other == n) n numbers)
is_there (n ∷ numbers) (suc i) d lt =
    let behind = is_there numbers i d (omega (arith, lt)) in
    omega (arith, behind, count_by-cons (λ other. other == get_or numbers i d) n numbers)

-- so it is one of those that each stand there once
each_within : (from to : ℕ) (numbers : List ℕ) → HasEachOnce from to numbers → All (λ n. (from ≤ n) × (n < to)) numbers
each_within from to numbers once = λ i d lt.
    let n = get_or numbers i d in
    let there = is_there numbers i d lt in (
      elim (cases_lt n from) [ inl below ↦ absurd (omega (arith, there, once.none_below n below)) | inr le ↦ le ],
      elim (cases_lt n to) [ inl below ↦ below | inr above ↦ absurd (omega (arith, there, once.none_above n above)) ],
    )

-- what holds of all of two lists holds of each
pub All-first : (P : ℕ → Type 0) (xs ys : List ℕ) → All P (xs ++ ys) → All P xs
All-first P xs ys all = λ i d lt. subst P (get_or_append_left xs ys d i lt) (all i d (omega (arith, lt, length-append xs ys)))

-- what holds of two lists, one after another, holds of the second
pub All-second : (P : ℕ → Type 0) (xs ys : List ℕ) → All P (xs ++ ys) → All P ys
All-second P [] ys all = all
All-second P (x ∷ xs) ys all = All-second P xs ys (All-tail P x (xs ++ ys) all)

-- what holds of all of several lists holds of each of them
All-of_one : {X : Type 0} (P : ℕ → Type 0) (f : X → List ℕ) (xs : List X) (i : ℕ) (d : X) → All P (flat_map f xs) → i < length xs → All P (f (get_or xs i d))
All-of_one P f [] i d all lt = absurd (omega (arith, lt))
All-of_one P f (x ∷ xs) zero d all lt = All-first P (f x) (flat_map f xs) (subst (All P) (flat_map-cons f x xs) all)
All-of_one P f (x ∷ xs) (suc i) d all lt =
    All-of_one P f xs i d (All-second P (f x) (flat_map f xs) (subst (All P) (flat_map-cons f x xs) all)) (omega (arith, lt))

-- ---- a round's share

-- its packets are packets, of which the last one alone has SYNC
pub record IsShareRead (page_size : ℕ) (base : ℕ) (image : Image) (batches : List BatchOfPages) (share : Share) : Type 0 where
  pub none_before : All (IsPacketWith page_size false) (map (λ number. (claimed_packet base image batches number).bytes) share.numbers)
  pub is_last : IsPacketWith page_size true (sync_packet page_size share.last)

-- a number that claims a batch, and one that claims none
claims : (image : Image) (base : ℕ) (batches : List BatchOfPages) (number : ℕ) → IsTable image.table → IsImage image → All (IsBatch image.table) batches
    → base ≤ number → number < base + length batches → number < 2 ^ 64
    → IsPacketWith image.table.page_size false (claimed_packet base image batches number).bytes
claims image base batches number table is all from within fits =
    batch_is_packet image (get_or batches (number - base) no_batch) number table is (all (number - base) no_batch (omega (arith, from, within))) fits

share_read : (table : RamTable) (limit channels channel : ℕ) (round : DealtRound) → IsTable table
    → limit ≤ page_limit table.page_size → IsDealtRound table limit channels round
    → round.base + packet_count round ≤ 2 ^ 64 → channel < channels
    → IsShareRead table.page_size round.base round.snapshot.image round.batches (get_or round.shares channel no_share)
share_read table limit channels channel round is le dealt fits lt =
    let image = round.snapshot.image in
    let share = get_or round.shares channel no_share in
    let here : channel < length round.shares = omega (arith, lt, dealt.as_many) in
    let batches : All (IsBatch table) round.batches =
    batches_fit (record { table = table; marked = round.snapshot.dirty }) limit round.batches dealt.has_places le dealt.has_batches in
    let numbers = All-of_one (λ n. (round.base ≤ n) × (n < round.base + length round.batches)) (λ (s : Share). s.numbers) round.shares channel no_share
    (each_within round.base (round.base + length round.batches) (flat_map (λ (s : Share). s.numbers) round.shares) dealt.has_shares.has_batches) here in
    let lasts = each_within (round.base + length round.batches) (round.base + length round.batches + length round.shares)
    (map (λ (s : Share). s.last) round.shares) dealt.has_shares.has_lasts in
    let last : share.last < round.base + length round.batches + length round.shares =
    subst (λ (n : ℕ). n < round.base + length round.batches + length round.shares) (get_or-map (λ (s : Share). s.last) round.shares channel no_share 0 here)
    (lasts channel 0 (omega (arith, here, length-map round.shares (λ (s : Share). s.last)))).1 in
    let table_here : IsTable image.table = subst IsTable (sym dealt.has_table) is in
    let batches_here : All (IsBatch image.table) round.batches = subst (λ (t : RamTable). All (IsBatch t) round.batches) (sym dealt.has_table) batches in
    record {
      none_before = All-map (IsPacketWith table.page_size false) (λ number. (claimed_packet round.base image round.batches number).bytes) share.numbers
          (All-weaker (λ n. (round.base ≤ n) × (n < round.base + length round.batches))
          (λ n. IsPacketWith table.page_size false (claimed_packet round.base image round.batches n).bytes)
          (λ n within. subst (λ (t : RamTable). IsPacketWith t.page_size false (claimed_packet round.base image round.batches n).bytes) dealt.has_table
          (claims image round.base round.batches n table_here dealt.has_image batches_here within.0 within.1
          (omega (arith, within.1, fits)))) share.numbers numbers);
      is_last = written_is_packet table.page_size share.last true [] [] [] []
          (sync_writable table.page_size share.last is.has_page_size (omega (arith, last, fits)));
    }

-- ---- all rounds

concat_map : {X : Type 0} (f : X → List ℕ) (xs : List X) → concat (map f xs) ≡ flat_map f xs
concat_map f [] = refl
concat_map f (x ∷ xs) = ap (λ (l : List ℕ). f x ++ l) (concat_map f xs) ∙ sym (flat_map-cons f x xs)

-- one round of a channel
one_round : (given : Settings) (id : ℕ) (before : List (List (List ℕ))) (channel : ℕ) (round : DealtRound)
    → round.snapshot.image.table.page_size ≡ given.page_size
    → IsShareRead given.page_size round.base round.snapshot.image round.batches (get_or round.shares channel no_share)
    → Front (at given id before []) (round_text channel round) (at given id (before ++ round_packets channel round ∷ []) [])
one_round given id before channel round same is =
    let image = round.snapshot.image in
    let share = get_or round.shares channel no_share in
    let packet : ℕ → List ℕ = λ number. (claimed_packet round.base image round.batches number).bytes in
    let packets = map packet share.numbers in
    let read = round_read given id before packets (sync_packet given.page_size share.last) is.none_before is.is_last in
    subst (λ (l : List ℕ). Front (at given id before []) (l ++ sync_packet image.table.page_size share.last)
    (at given id (before ++ round_packets channel round ∷ []) []))
    (concat_map packet share.numbers)
    (subst (λ (l : List ℕ). Front (at given id before []) (concat packets ++ l) (at given id (before ++ (packets ++ l ∷ []) ∷ []) []))
    (ap (λ (n : ℕ). sync_packet n share.last) (sym same)) read)

rounds_read : (given : Settings) (id : ℕ) (before : List (List (List ℕ))) (channel : ℕ) (rounds : List DealtRound)
    → All (λ (round : DealtRound). (round.snapshot.image.table.page_size ≡ given.page_size)
    × IsShareRead given.page_size round.base round.snapshot.image round.batches (get_or round.shares channel no_share)) rounds
    → Front (at given id before []) (flat_map (round_text channel) rounds) (at given id (before ++ map (round_packets channel) rounds) [])
rounds_read given id before channel [] all =
    subst (λ (l : List (List (List ℕ))). Front (at given id before []) [] (at given id l [])) (sym (append-nil before)) (Front-none (at given id before []))
rounds_read given id before channel (round ∷ rounds) all =
    let P = λ (round : DealtRound). (round.snapshot.image.table.page_size ≡ given.page_size)
    × IsShareRead given.page_size round.base round.snapshot.image round.batches (get_or round.shares channel no_share) in
    let here = All-head P round rounds all in
    let first = one_round given id before channel round here.0 here.1 in
    let others = rounds_read given id (before ++ round_packets channel round ∷ []) channel rounds (All-tail P round rounds all) in
    let mid = at given id (before ++ round_packets channel round ∷ []) [] in
    let end = (before ++ round_packets channel round ∷ []) ++ map (round_packets channel) rounds in
    let both = Front-append (at given id before []) mid (at given id end []) (round_text channel round) (flat_map (round_text channel) rounds) first others in
    subst (λ (l : List ℕ). Front (at given id before []) l
    (at given id (before ++ map (round_packets channel) (round ∷ rounds)) [])) (sym (flat_map-cons (round_text channel) round rounds))
    (subst (λ (l : List (List (List ℕ))). Front (at given id before []) (round_text channel round ++ flat_map (round_text channel) rounds) (at given id l []))
    (append_assoc before (round_packets channel round ∷ []) (map (round_packets channel) rounds)) both)

-- ---- a complete channel

-- it is read from its start to its end
whole_read : (given : Settings) (channel : ℕ) (rounds : List DealtRound) → length given.uuid ≡ 16 → channel < given.channels
    → All (λ (round : DealtRound). (round.snapshot.image.table.page_size ≡ given.page_size)
    × IsShareRead given.page_size round.base round.snapshot.image round.batches (get_or round.shares channel no_share)) rounds
    → Reads (start given.page_size given.uuid given.channels None) (channel_text given.uuid rounds channel)
    (at given channel (map (round_packets channel) rounds) []) [] Reading
whole_read given channel rounds long lt all =
    let c = start given.page_size given.uuid given.channels None in
    let hello = written_hello given.uuid channel in
    let is = hello_back given.uuid channel long in
    let first : Front c hello (at given channel [] []) =
    subst (λ (id : ℕ). Front c hello (at given id [] [])) is.has_id
    (Front-push c c [] hello (Front-none c) is.has_length (hello_free given.uuid given.channels channel hello is lt)) in
    record {
      front = channel_text given.uuid rounds channel;
      has_text = sym (append-nil (channel_text given.uuid rounds channel));
      leads = Front-append c (at given channel [] []) (at given channel (map (round_packets channel) rounds) []) hello
          (flat_map (round_text channel) rounds) first
          (rounds_read given channel [] channel rounds all);
      ends = (
        ap (λ (b : Bool). cond b (first_fault (at given channel (map (round_packets channel) rounds) []) []) None)
            (lt-leb (head_len given.page_size) 0 (omega arith)),
        no_head given.page_size (Some channel) [] (omega arith),
      );
    }

-- ---- the law

-- what is numbered on stays below all
numbers_below : (from : ℕ) (rounds : List DealtRound) → AreNumbered from rounds
    → All (λ (round : DealtRound). round.base + packet_count round ≤ from + sum_by packet_count rounds) rounds
numbers_below from [] are = All-nil (λ (round : DealtRound). round.base + packet_count round ≤ from + sum_by packet_count [])
numbers_below from (round ∷ rounds) are =
    let Q = λ (other : DealtRound). other.base + packet_count other ≤ from + sum_by packet_count (round ∷ rounds) in
    let sum = sum_by-cons packet_count round rounds in
    All-cons Q round rounds (omega (arith, are.0, sum))
    (All-weaker (λ (other : DealtRound). other.base + packet_count other ≤ from + packet_count round + sum_by packet_count rounds) Q
    (λ other le. omega (arith, le, sum)) rounds (numbers_below (from + packet_count round) rounds are.1))

each_read : (table : RamTable) (uuid : List ℕ) (limit channels : ℕ) (rounds : List DealtRound) (main_text : List ℕ) (texts : List (List ℕ))
    → IsSending table uuid limit channels rounds main_text texts → (channel : ℕ) → channel < channels
    → Reads (start table.page_size uuid channels None) (get_or texts channel [])
    (at (settings table.page_size uuid channels) channel (map (round_packets channel) rounds) []) [] Reading
each_read table uuid limit channels rounds main_text texts is channel lt =
    let given = settings table.page_size uuid channels in
    let text : get_or texts channel [] ≡ channel_text uuid rounds channel =
    ap (λ (l : List (List ℕ)). get_or l channel []) is.has_texts
    ∙ get_or-map-range_with_len (channel_text uuid rounds) 0 channels channel channel [] lt (omega arith) in
    let below = numbers_below 0 rounds is.are_numbered in
    subst (λ (l : List ℕ). Reads (start table.page_size uuid channels None) l (at given channel (map (round_packets channel) rounds) []) [] Reading) (sym text)
    (whole_read given channel rounds is.is_set.has_uuid lt (λ i d within.
    let dealt = is.are_dealt i d within in (
      ap (λ (t : RamTable). t.page_size) dealt.has_table,
      share_read table limit channels channel (get_or rounds i d) is.is_set.has_table is.is_set.has_limit.1 dealt
          (omega (arith, below i d within, is.numbers_fit)) lt,
    )))

-- given the main stream's laws, a sending's streams are read as its table, rounds and packets
pub sendings_are_read_back : MainsAreTexts → SpelledIsRead → SendingsAreReadBack
sendings_are_read_back mains spelled = λ table uuid limit channels rounds main_text texts is. record {
  main_is_read = λ most room.
      subst (λ (text : List ℕ). stream.IsReading (stream.settings Main table.page_size most) text (closed table (replicate (length rounds) [])))
      (append-nil (main table (length rounds)) ∙ sym is.has_main)
      (spelled Main most (main table (length rounds)) [] table (replicate (length rounds) []) (mains most table (length rounds) is.is_set.has_table room));
  channels_are_read = λ channel lt. record {
    to = at (settings table.page_size uuid channels) channel (map (round_packets channel) rounds) [];
    rest = [];
    found = Reading;
    reads = each_read table uuid limit channels rounds main_text texts is channel lt;
    has_hello = refl;
    has_rounds = refl;
    has_state = refl;
  };
  have_items = λ channel lt. record {
    to = at (settings table.page_size uuid channels) channel (map (round_packets channel) rounds) [];
    rest = [];
    found = Reading;
    reads = each_read table uuid limit channels rounds main_text texts is channel lt;
    has_items = items_are table.page_size rounds channel;
  };
}
  where
    items_are : (page_size : ℕ) (rounds : List DealtRound) (channel : ℕ) → channel_items page_size rounds channel
        ≡ Hello channel ∷ map (λ packet. Page (fields_of page_size packet))
        (flat_map (λ round. round) (map (round_packets channel) rounds) ++ []) ++ Stop None ∷ []
    items_are page_size rounds channel =
        ap (λ (l : List (List ℕ)). Hello channel ∷ map (λ packet. Page (fields_of page_size packet)) l ++ Stop None ∷ [])
        (sym (append-nil (flat_map (λ round. round) (map (round_packets channel) rounds)) ∙ flat_map-map (λ round. round) (round_packets channel) rounds))

-- ---- a machine's main stream

-- if sendings are read back, so are those whose main stream is a machine's
pub machine_sendings_are_read_back : MachineMainsAreTexts → SendingsAreReadBack → MachineSendingsAreReadBack
machine_sendings_are_read_back written back = λ name table uuid limit channels rounds main_text texts short sending.
    let n : ℕ = length rounds in (
      λ most rest fits. subst (λ (text : List ℕ). stream.IsReading
          (stream.in_frame Machine (stream.settings Main table.page_size most)) (text ++ rest) (closed table (replicate n [])))
          (sym sending.has_main)
          (machine_is_read Main most (machine_written name table (replicate n FlushPart)) rest table (replicate n [])
          (written most name table n short sending.is_sending.is_set.has_table fits)),
      back table uuid limit channels rounds _ texts sending.is_sending,
    )

-- ---- what the packets say

-- a batch's packet says its number, block and pages, and a SYNC packet says only its number
pub say_their_pages : SayTheirPages
say_their_pages = record {
  batch_says = λ image batch number table is is_batch fits.
      let size = image.table.page_size in
      let round = round_of image (batch_places batch) in
      let id = (block image.table.blocks batch.block).id in
      let writable = batch_writable image batch number table is is_batch fits in
      let back = packet_back size number false id (offsets_of size (normals_of round)) (contents_of (normals_of round))
      (offsets_of size (zeros_of round)) writable in
      sym back.1 ∙ ap (λ (pages : List NormalPage). record { number = number; sync = false; id = id; normal = pages; zero = offsets_of size (zeros_of round) })
      (normal_pages_are image batch is is_batch (normals_of round) refl);
  sync_says = λ table number is fits. sym (packet_back table.page_size number true [] [] [] [] (sync_writable table.page_size number is.has_page_size fits)).1;
}
