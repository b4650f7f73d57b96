-- A limit of one more than twice a round's pages lets it through, however it was dealt.
use Rattle.std.proofs.Common.{ℕ, zero, suc, ◌≡◌, ◌+◌, ◌-◌, ◌*◌, ◌<◌, ◌≤◌, ◌^◌, true, false, not, Bool, List, [], ◌∷◌, length, map, get_or, Some, refl, sym, ap}
use Rattle.std.proofs.Common.{subst, ◌∙◌, arith}
use Rattle.std.specs.Prelude.{sum_by, flat_map}
use Rattle.std.specs.List.{All, range_with_len}
use Rattle.std.proofs.lemmas.List.{length-map, get_or-map}
use Rattle.std.proofs.lemmas.List.Concat.{length-flat_map}
use Rattle.std.proofs.lemmas.List.Elements.{All-nil, All-cons, All-head, All-tail, All-get_or}
use Rattle.std.proofs.lemmas.List.Filters.{length-filter_both}
use Rattle.std.proofs.lemmas.List.FromFn.{length-map-range_with_len}
use Rattle.std.proofs.lemmas.List.Sorted.{sum_by-IsPermutation, All-permutation}
use Rattle.std.proofs.lemmas.List.Sums.{sum_by-append, sum_by_push}
use Rattle.mig_mem.specs.RamTable.{RamTable, IsTable}
use Rattle.mig_mem.specs.Image.{Image, IsImage, Page, content_at, pages_of}
use Rattle.mig_mem.specs.PlaceSet.{IsPlaceSet}
use Rattle.mig_mem.specs.Place.{place_at}
use Rattle.mig_mem.specs.declared.place.Place.{Place}
use Rattle.mig_mem.specs.Round.{round_of}
use Rattle.mig_zero.specs.Zero.{is_zero}
use Rattle.mig_packet.specs.PageSize.{page_limit}
use Rattle.mig_packet.specs.Packet.{NormalPage, Fields, fields_of, normal_count, zero_count, offset_at}
use Rattle.mig_packet.specs.Packet as packet
use Rattle.mig_packet.specs.Waiting.{weight, weight_of_all, IsWithin}
use Rattle.mig_send.specs.Batches.{BatchOfPages, IsBatch, batch_places}
use Rattle.mig_send.specs.Packing.{normals_of, zeros_of, packed_of}
use Rattle.mig_send.specs.Work.{Share, no_batch, claimed_packet}
use Rattle.mig_send.specs.Dealing.{IsDealing, sync_packet}
use Rattle.mig_send.specs.DealtRounds.{DealtRound, IsDealtRound, packet_count, no_share}
use Rattle.mig_send.specs.ReadBack.{round_packets}
use Rattle.mig_send.proofs.Cutting.{batches_fit}
use Rattle.mig_send.proofs.ReadBack.{say_their_pages, All-first, All-second}
use Rattle.mig_assemble.proofs.Elements.{sum_by-map}
use Rattle.mig_answer.specs.Sent.{TwiceThePagesLetThrough}
use Rattle.mig_answer.proofs.DealtBags.{by_number, each_once_run}
use Rattle.mig_answer.proofs.SentRounds.{fits}
use Rattle.mig_mem.proofs.Members.{All-range}

-- ---- what a packet counts

-- by its fields
abbrev counted : Fields → ℕ
counted f = 1 + length f.normal + length f.zero

counted_is : (p : ℕ) (bytes : List ℕ) → weight bytes ≡ counted (fields_of p bytes)
counted_is p bytes =
    let normals : length (fields_of p bytes).normal ≡ normal_count bytes =
    length-map-range_with_len (λ i. record { offset = offset_at bytes i; content = packet.content_at p bytes i }) 0 (normal_count bytes) in
    let zeros : length (fields_of p bytes).zero ≡ zero_count bytes = length-map-range_with_len (offset_at bytes) (normal_count bytes) (zero_count bytes) in
    omega (arith, normals, zeros)

length-round : (image : Image) (batch : BatchOfPages) → length (round_of image (batch_places batch)) ≡ length batch.pages
unfolding pages_of
length-round image batch =
    length-map (batch_places batch) (λ (q : Place). record { place = q; content = content_at image q }) ∙ length-map batch.pages (place_at batch.block)

batch_counts : (image : Image) (batch : BatchOfPages) (number : ℕ) → IsTable image.table → IsImage image → IsBatch image.table batch → number < 2 ^ 64
    → weight (packed_of image batch number).bytes ≡ 1 + length batch.pages
batch_counts image batch number table is is_batch below =
    let p : ℕ = image.table.page_size in
    let round : List Page = round_of image (batch_places batch) in
    let said = ap counted (say_their_pages.batch_says image batch number table is is_batch below) in
    let as_normal : Page → NormalPage = λ page. record { offset = page.place.page * p; content = page.content } in
    let normals = length-map (normals_of round) as_normal in
    let zeros = length-map (zeros_of round) (λ (page : Page). page.place.page * p) in
    let both = length-filter_both (λ (page : Page). not (is_zero page.content)) (λ (page : Page). is_zero page.content)
    (λ page. twice (is_zero page.content)) round in
    omega (arith, counted_is p (packed_of image batch number).bytes, said, normals, zeros, both, length-round image batch)
  where
    twice : (b : Bool) → b ≡ not (not b)
    twice true = refl
    twice false = refl

sync_counts : (table : RamTable) (number : ℕ) → IsTable table → number < 2 ^ 64 → weight (sync_packet table.page_size number) ≡ 1
sync_counts table number is below =
    counted_is table.page_size (sync_packet table.page_size number) ∙ ap counted (say_their_pages.sync_says table number is below)

-- ---- what the packets of a round count together

-- how much the packet of a number counts
abbrev claimed_count : ℕ → List BatchOfPages → ℕ → ℕ
claimed_count base batches number = 1 + length (get_or batches (number - base) no_batch).pages

-- a share's numbers are among all of them
part_of : (g : ℕ → ℕ) (shares : List Share) (i : ℕ) → i < length shares
    → sum_by g (get_or shares i no_share).numbers ≤ sum_by g (flat_map (λ (share : Share). share.numbers) shares)
part_of g [] i below = absurd (omega (arith, below))
part_of g (share ∷ shares) zero below = omega (arith, sum_by-append g share.numbers (flat_map (λ (s : Share). s.numbers) shares))
part_of g (share ∷ shares) (suc i) below =
    omega (arith, part_of g shares i (omega (arith, below)), sum_by-append g share.numbers (flat_map (λ (s : Share). s.numbers) shares))

-- all batches count one each, and their pages
all_counts : (batches : List BatchOfPages)
    → sum_by (λ (batch : BatchOfPages). 1 + length batch.pages) batches ≡ length batches + length (flat_map batch_places batches)
all_counts [] = refl
all_counts (batch ∷ batches) =
    omega (
      arith,
      all_counts batches,
      sum_by-append (λ (b : BatchOfPages). 1 + length b.pages) (batch ∷ []) batches,
      length-flat_map batch_places (batch ∷ batches),
      length-flat_map batch_places batches,
      sum_by-append (λ (b : BatchOfPages). length (batch_places b)) (batch ∷ []) batches,
      length-map batch.pages (place_at batch.block),
    )

-- and each has a page
few_batches : (limit : ℕ) (batches : List BatchOfPages)
    → All (λ (batch : BatchOfPages). (0 < length batch.pages) × (length batch.pages ≤ limit)) batches → length batches ≤ length (flat_map batch_places batches)
few_batches limit [] sizes = omega arith
few_batches limit (batch ∷ batches) sizes =
    let HasSize : BatchOfPages → Type 0 = λ b. (0 < length b.pages) × (length b.pages ≤ limit) in
    let here : 0 < length batch.pages = (All-head HasSize batch batches sizes).0 in
    omega (
      arith,
      few_batches limit batches (All-tail HasSize batch batches sizes),
      here,
      length-flat_map batch_places (batch ∷ batches),
      length-flat_map batch_places batches,
      sum_by-append (λ (b : BatchOfPages). length (batch_places b)) (batch ∷ []) batches,
      length-map batch.pages (place_at batch.block),
    )

claimed_sum : (base : ℕ) (batches : List BatchOfPages) (shares : List Share) → IsDealing base (length batches) shares
    → sum_by (claimed_count base batches) (flat_map (λ (share : Share). share.numbers) shares) ≡ length batches + length (flat_map batch_places batches)
claimed_sum base batches shares dealing =
    let numbers : List ℕ = flat_map (λ (share : Share). share.numbers) shares in
    let claiming : List ℕ = range_with_len base (length batches) in
    sum_by-IsPermutation (claimed_count base batches) claiming numbers (each_once_run base (length batches) numbers dealing.has_batches)
    ∙ sym (sum_by-map (λ (batch : BatchOfPages). 1 + length batch.pages) (λ number. get_or batches (number - base) no_batch) claiming)
    ∙ ap (sum_by (λ (batch : BatchOfPages). 1 + length batch.pages)) (by_number base no_batch batches)
    ∙ all_counts batches

-- ---- what a channel's part of a round counts

part_has : (P : ℕ → Type 0) (shares : List Share) (i : ℕ) → i < length shares
    → All P (flat_map (λ (share : Share). share.numbers) shares) → All P (get_or shares i no_share).numbers
part_has P [] i below all = absurd (omega (arith, below))
part_has P (share ∷ shares) zero below all = All-first P share.numbers (flat_map (λ (s : Share). s.numbers) shares) all
part_has P (share ∷ shares) (suc i) below all =
    part_has P shares i (omega (arith, below)) (All-second P share.numbers (flat_map (λ (s : Share). s.numbers) shares) all)

sum_agrees : (f g : ℕ → ℕ) (xs : List ℕ) → All (λ (x : ℕ). f x ≡ g x) xs → sum_by f xs ≡ sum_by g xs
sum_agrees f g [] all = refl
sum_agrees f g (x ∷ xs) all =
    omega (
      arith,
      All-head (λ (y : ℕ). f y ≡ g y) x xs all,
      sum_agrees f g xs (All-tail (λ (y : ℕ). f y ≡ g y) x xs all),
      sum_by-append f (x ∷ []) xs,
      sum_by-append g (x ∷ []) xs,
    )

module _ (round : DealtRound) (table : IsTable round.snapshot.image.table) (image : IsImage round.snapshot.image) (limit : ℕ)
    (sizes : All (λ (batch : BatchOfPages). (0 < length batch.pages)
    × (length batch.pages ≤ limit)) round.batches) (are_batches : All (IsBatch round.snapshot.image.table) round.batches)
    (dealing : IsDealing round.base (length round.batches) round.shares) (fits_in : round.base + packet_count round ≤ 2 ^ 64) where
  abbrev claimed : ℕ → List ℕ
  claimed number = (claimed_packet round.base round.snapshot.image round.batches number).bytes

  abbrev Counts : ℕ → Type 0
  Counts number = weight (claimed number) ≡ claimed_count round.base round.batches number

  all_count : All Counts (flat_map (λ (share : Share). share.numbers) round.shares)
  all_count =
      let claiming : List ℕ = range_with_len round.base (length round.batches) in
      let numbers : List ℕ = flat_map (λ (share : Share). share.numbers) round.shares in
      All-permutation Counts claiming numbers (each_once_run round.base (length round.batches) numbers dealing.has_batches)
      (All-range Counts round.base (length round.batches) (λ number low high.
      batch_counts round.snapshot.image (get_or round.batches (number - round.base) no_batch) number table image
      (are_batches (number - round.base) no_batch (omega (arith, low, high))) (omega (arith, fits_in, high))))

  last_below : (i : ℕ) → i < length round.shares → (get_or round.shares i no_share).last < 2 ^ 64
  last_below i below =
      let lasts : List ℕ = map (λ (share : Share). share.last) round.shares in
      let run : List ℕ = range_with_len (round.base + length round.batches) (length round.shares) in
      let IsLow : ℕ → Type 0 = λ number. number < 2 ^ 64 in
      let all : All IsLow lasts =
      All-permutation IsLow run lasts (each_once_run (round.base + length round.batches) (length round.shares) lasts dealing.has_lasts)
      (All-range IsLow (round.base + length round.batches) (length round.shares) (λ number low high. omega (arith, fits_in, high))) in
      subst IsLow (get_or-map (λ (share : Share). share.last) round.shares i no_share (no_share.last) below)
      (all i no_share.last (omega (arith, below, length-map round.shares (λ (share : Share). share.last))))

  part_counts : (i : ℕ) → i < length round.shares → weight_of_all (round_packets i round) ≤ 2 * length (flat_map batch_places round.batches) + 1
  part_counts i below =
      let share : Share = get_or round.shares i no_share in
      let sync : List ℕ = sync_packet round.snapshot.image.table.page_size share.last in
      let mine = sum_by_push weight (map claimed share.numbers) sync in
      let claims = sum_by-map weight claimed share.numbers in
      let agree = sum_agrees (λ number. weight (claimed number)) (claimed_count round.base round.batches) share.numbers
      (part_has Counts round.shares i below all_count) in
      omega (
        arith,
        mine,
        claims,
        agree,
        sync_counts round.snapshot.image.table share.last table (last_below i below),
        part_of (claimed_count round.base round.batches) round.shares i below,
        claimed_sum round.base round.batches round.shares dealing,
        few_batches limit round.batches sizes,
      )

-- ---- the law

rounds_within : (limit channel : ℕ) (rounds : List DealtRound)
    → ((k : ℕ) (d : DealtRound) → k < length rounds → weight_of_all (round_packets channel (get_or rounds k d)) ≤ limit)
    → All (IsWithin (Some limit)) (map (round_packets channel) rounds)
rounds_within limit channel [] each = All-nil (IsWithin (Some limit))
rounds_within limit channel (round ∷ rounds) each =
    All-cons (IsWithin (Some limit)) (round_packets channel round) (map (round_packets channel) rounds) (each 0 round (omega arith))
    (rounds_within limit channel rounds (λ k d below. each (suc k) d (omega (arith, below))))

-- a limit of one more than twice the pages of each round lets all rounds through, however dealt
pub twice_law : TwiceThePagesLetThrough
twice_law = λ table uuid rounds main channels limit sent few channel below.
    let sending = sent.is_sending in
    rounds_within limit channel rounds (λ k d k_below.
    let round : DealtRound = get_or rounds k d in
    let dealt : IsDealtRound table sent.batch_limit (length channels) round =
    All-get_or (IsDealtRound table sent.batch_limit (length channels)) rounds k d k_below sending.are_dealt in
    let places : IsPlaceSet (record { table = round.snapshot.image.table; marked = round.snapshot.dirty }) =
    subst (λ (t : RamTable). IsPlaceSet (record { table = t; marked = round.snapshot.dirty })) (sym dealt.has_table) dealt.has_places in
    let room : sent.batch_limit ≤ page_limit round.snapshot.image.table.page_size =
    subst (λ (t : RamTable). sent.batch_limit ≤ page_limit t.page_size) (sym dealt.has_table) sending.is_set.has_limit.1 in
    let batches : All (IsBatch round.snapshot.image.table) round.batches =
    batches_fit (record { table = round.snapshot.image.table; marked = round.snapshot.dirty }) sent.batch_limit round.batches places room dealt.has_batches in
    let part = part_counts round places.has_table dealt.has_image sent.batch_limit dealt.has_batches.has_sizes batches
    dealt.has_shares (fits rounds k d sending.are_numbered k_below sending.numbers_fit)
    channel (omega (arith, below, dealt.as_many)) in
    omega (
      arith,
      part,
      ap (λ (l : List Place). length l) dealt.has_batches.has_all,
      All-get_or (λ (r : DealtRound). 2 * length r.snapshot.dirty + 1 ≤ limit) rounds k d k_below few,
    ))
