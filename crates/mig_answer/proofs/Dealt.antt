-- A dealt round is a lawful round, and brings the pages that it has.
use Rattle.std.proofs.Common.{ℕ, ◌≡◌, ◌+◌, ◌-◌, ◌<◌, ◌≤◌, ◌^◌, List, [], ◌∷◌, ◌++◌, length, map, get_or, refl, sym, ap, ◌∙◌, arith, true, subst}
use Rattle.std.specs.Prelude.{flat_map, IsPermutation}
use Rattle.std.specs.List.{All, range_with_len}
use Rattle.std.proofs.lemmas.List.{map-append, map-id, append-nil, length-map}
use Rattle.std.proofs.lemmas.List.FromFn.{length-range_with_len}
use Rattle.std.proofs.lemmas.List.Elements.{All-map, All-append, All-contains, All-nil}
use Rattle.std.proofs.lemmas.List.Folds.{flat_map-map}
use Rattle.std.proofs.lemmas.List.Concat.{flat_map-append}
use Rattle.std.proofs.lemmas.List.Sorted.{IsPermutation-refl, IsPermutation-sym}
use Rattle.mig_mem.specs.declared.place.Place.{Place}
use Rattle.mig_mem.specs.RamTable.{RamTable, IsTable}
use Rattle.mig_mem.specs.Place.{IsAscending}
use Rattle.mig_mem.specs.Image.{Page, IsImage}
use Rattle.mig_mem.specs.PlaceSet.{IsPlaceSet}
use Rattle.mig_mem.specs.Round.{round_of}
use Rattle.mig_mem.proofs.Members.{map-map, map_agree, All-range}
use Rattle.mig_mem.proofs.Counts.{range-append}
use Rattle.mig_packet.specs.PageSize.{page_limit}
use Rattle.mig_packet.specs.Packet.{Fields, fields_of}
use Rattle.mig_send.specs.Batches.{BatchOfPages, IsBatch, batch_places}
use Rattle.mig_send.specs.Work.{Share, no_batch, claimed_packet}
use Rattle.mig_send.specs.Dealing.{IsDealing, sync_packet}
use Rattle.mig_send.specs.DealtRounds.{DealtRound, IsDealtRound, packet_count}
use Rattle.mig_send.specs.ReadBack.{share_packets, batch_fields}
use Rattle.mig_send.proofs.Cutting.{batches_fit}
use Rattle.mig_send.proofs.ReadBack.{say_their_pages}
use Rattle.mig_assemble.specs.Judging.{numbers, offsets, packet_pages, all_round_pages}
use Rattle.mig_assemble.specs.Lawful.{IsPageOffset, IsLawful}
use Rattle.mig_assemble.proofs.Bags.{SameBag, bag_permutation, bag_trans, bag_map, bag_flat_map, bag_length}
use Rattle.mig_assemble.proofs.OrderFree.{refusal_bag}
use Rattle.mig_assemble.proofs.LawfulRounds.{round_is_lawful}
use Rattle.mig_answer.specs.Dealt.{dealt_fields, dealt_pages, BringTheRound, DealtRoundsAreLawful}
use Rattle.mig_answer.proofs.DealtBags.{bag_append, bag_each, bag_lasts, map-flat_map, by_number, each_once_run}
use Rattle.mig_answer.proofs.DealtPackets.{batch_offsets, batch_pages}
use Rattle.mig_answer.proofs.DealtPages.{round-flat_map, same_last, same_memory, none_again}

-- ---- the packets of a round in order of their numbers

-- what a SYNC packet says
abbrev sync_said : ℕ → Fields
sync_said number = record { number = number; sync = true; id = []; normal = []; zero = [] }

-- what the packet says that a number claims
abbrev said : DealtRound → ℕ → Fields
said round number = batch_fields round.snapshot.image (get_or round.batches (number - round.base) no_batch) number

-- first those of the batches, then the SYNC packets
abbrev in_order : DealtRound → List Fields
in_order round =
    map (said round) (range_with_len round.base (length round.batches)) ++ map sync_said
    (range_with_len (round.base + length round.batches) (length round.shares))

numbers-in_order : (round : DealtRound) → numbers (in_order round) ≡ range_with_len round.base (packet_count round)
numbers-in_order round =
    let number : Fields → ℕ = λ packet. packet.number in
    let first : List ℕ = range_with_len round.base (length round.batches) in
    let second : List ℕ = range_with_len (round.base + length round.batches) (length round.shares) in
    map-append number (map (said round) first) (map sync_said second)
    ∙ ap (λ (l : List ℕ). l ++ numbers (map sync_said second)) (map-map number (said round) first ∙ map-id first)
    ∙ ap (λ (l : List ℕ). first ++ l) (map-map number sync_said second ∙ map-id second)
    ∙ sym (range-append round.base (length round.batches) (length round.shares))

length-in_order : (round : DealtRound) → length (in_order round) ≡ packet_count round
length-in_order round =
    sym (length-map (in_order round) (λ (packet : Fields). packet.number)) ∙ ap (λ (l : List ℕ). length l) (numbers-in_order round)
    ∙ length-range_with_len round.base (packet_count round)

-- ---- what is dealt is these, in some order

module _ (round : DealtRound) (table : IsTable round.snapshot.image.table) (image : IsImage round.snapshot.image)
    (are_batches : All (IsBatch round.snapshot.image.table) round.batches)
    (dealing : IsDealing round.base (length round.batches) round.shares) (fits : round.base + packet_count round ≤ 2 ^ 64) where
  abbrev size : ℕ
  size = round.snapshot.image.table.page_size

  abbrev claiming : List ℕ
  claiming = range_with_len round.base (length round.batches)

  abbrev lasts : List ℕ
  lasts = range_with_len (round.base + length round.batches) (length round.shares)

  abbrev claimed : ℕ → List ℕ
  claimed number = (claimed_packet round.base round.snapshot.image round.batches number).bytes

  abbrev packets : List (List ℕ)
  packets = flat_map (share_packets round.base round.snapshot.image round.batches) round.shares

  packets_in_order : SameBag packets (map claimed claiming ++ map (sync_packet size) lasts)
  packets_in_order =
      let share_numbers : Share → List ℕ = λ share. share.numbers in
      let share_last : Share → ℕ = λ share. share.last in
      let ns : List ℕ = flat_map share_numbers round.shares in
      let ls : List ℕ = map share_last round.shares in
      let claim : SameBag ns claiming =
      bag_permutation ns claiming (IsPermutation-sym claiming ns (each_once_run round.base (length round.batches) ns dealing.has_batches)) in
      let end : SameBag ls lasts =
      bag_permutation ls lasts (IsPermutation-sym lasts ls (each_once_run (round.base + length round.batches) (length round.shares) ls dealing.has_lasts)) in
      let first : SameBag (flat_map (λ share. map claimed (share_numbers share)) round.shares) (map claimed claiming) =
      subst (λ (l : List (List ℕ)). SameBag l (map claimed claiming)) (map-flat_map claimed share_numbers round.shares) (bag_map claimed ns claiming claim) in
      let second : SameBag (map (λ share. sync_packet size (share_last share)) round.shares) (map (sync_packet size) lasts) =
      subst (λ (l : List (List ℕ)). SameBag l (map (sync_packet size) lasts)) (map-map (sync_packet size) share_last round.shares)
      (bag_map (sync_packet size) ls lasts end) in
      bag_trans packets
      (flat_map (λ share. map claimed (share_numbers share)) round.shares ++ map (λ share. sync_packet size (share_last share)) round.shares)
      (map claimed claiming ++ map (sync_packet size) lasts)
      (bag_lasts (λ share. map claimed (share_numbers share)) (λ share. sync_packet size (share_last share)) round.shares)
      (bag_append (flat_map (λ share. map claimed (share_numbers share)) round.shares) (map claimed claiming)
      (map (λ share. sync_packet size (share_last share)) round.shares) (map (sync_packet size) lasts) first second)

  batch_at : (number : ℕ) → round.base ≤ number → number < round.base + length round.batches
      → IsBatch round.snapshot.image.table (get_or round.batches (number - round.base) no_batch)
  batch_at number low high = are_batches (number - round.base) no_batch (omega (arith, low, high))

  said_in_order : map (fields_of size) (map claimed claiming ++ map (sync_packet size) lasts) ≡ in_order round
  said_in_order =
      let says : ℕ → Fields = λ number. fields_of size (claimed number) in
      let syncs : ℕ → Fields = λ number. fields_of size (sync_packet size number) in
      map-append (fields_of size) (map claimed claiming) (map (sync_packet size) lasts)
      ∙ ap (λ (l : List Fields). l ++ map (fields_of size) (map (sync_packet size) lasts))
      (map-map (fields_of size) claimed claiming
      ∙ map_agree says (said round) claiming (All-range (λ number. says number ≡ said round number) round.base (length round.batches) (λ number low high.
      say_their_pages.batch_says round.snapshot.image (get_or round.batches (number - round.base) no_batch) number table image (batch_at number low high)
      (omega (arith, fits, high)))))
      ∙ ap (λ (l : List Fields). map (said round) claiming ++ l)
      (map-map (fields_of size) (sync_packet size) lasts
      ∙ map_agree syncs sync_said lasts (All-range (λ number. syncs number ≡ sync_said number) (round.base + length round.batches)
      (length round.shares) (λ number low high.
      say_their_pages.sync_says round.snapshot.image.table number table (omega (arith, fits, high)))))

  pub dealt_in_order : SameBag (dealt_fields round) (in_order round)
  dealt_in_order =
      subst (λ (l : List Fields). SameBag l (in_order round))
      (map-flat_map (fields_of size) (share_packets round.base round.snapshot.image round.batches) round.shares)
      (subst (λ (l : List Fields). SameBag (map (fields_of size) packets) l) said_in_order
      (bag_map (fields_of size) packets (map claimed claiming ++ map (sync_packet size) lasts) packets_in_order))

  -- ---- their pages

  right_places : All (λ packet. All (IsPageOffset round.snapshot.image.table packet.id) (offsets packet)) (in_order round)
  right_places =
      let P : Fields → Type 0 = λ packet. All (IsPageOffset round.snapshot.image.table packet.id) (offsets packet) in
      All-append P (map (said round) claiming) (map sync_said lasts)
      (All-map P (said round) claiming (All-range (λ number. P (said round number)) round.base (length round.batches) (λ number low high.
      batch_offsets round.snapshot.image (get_or round.batches (number - round.base) no_batch) number table image (batch_at number low high))))
      (All-map P sync_said lasts (All-range (λ number. P (sync_said number)) (round.base + length round.batches) (length round.shares) (λ number low high.
      All-nil (IsPageOffset round.snapshot.image.table []))))

  no_pages : (ns : List ℕ) → flat_map (packet_pages round.snapshot.image.table) (map sync_said ns) ≡ []
  no_pages [] = refl
  no_pages (n ∷ ns) = no_pages ns

  pages_in_order : SameBag (all_round_pages round.snapshot.image.table [] (in_order round))
      (round_of round.snapshot.image (flat_map batch_places round.batches))
  pages_in_order =
      let pages : Fields → List Page = packet_pages round.snapshot.image.table in
      let batch : ℕ → BatchOfPages = λ number. get_or round.batches (number - round.base) no_batch in
      let round_at : BatchOfPages → List Page = λ b. round_of round.snapshot.image (batch_places b) in
      let e : flat_map pages (in_order round) ≡ flat_map (λ number. pages (said round number)) claiming =
      flat_map-append pages (map (said round) claiming) (map sync_said lasts)
      ∙ ap (λ (l : List Page). flat_map pages (map (said round) claiming) ++ l) (no_pages lasts)
      ∙ append-nil (flat_map pages (map (said round) claiming))
      ∙ flat_map-map pages (said round) claiming in
      let f : flat_map (λ number. round_at (batch number)) claiming ≡ round_of round.snapshot.image (flat_map batch_places round.batches) =
      sym (flat_map-map round_at batch claiming) ∙ ap (λ (l : List BatchOfPages). flat_map round_at l) (by_number round.base no_batch round.batches)
      ∙ sym (round-flat_map round.snapshot.image batch_places round.batches) in
      subst (λ (l : List Page). SameBag l (round_of round.snapshot.image (flat_map batch_places round.batches))) (sym e)
      (subst (λ (l : List Page). SameBag (flat_map (λ number. pages (said round number)) claiming) l) f
      (bag_each (λ number. pages (said round number)) (λ number. round_at (batch number)) claiming (λ number h.
      let within = All-contains (λ n. (round.base ≤ n) × (n < round.base + length round.batches)) claiming number
      (All-range (λ n. (round.base ≤ n) × (n < round.base + length round.batches)) round.base (length round.batches) (λ n low high. (low, high))) h in
      batch_pages round.snapshot.image (batch number) number table image (batch_at number within.0 within.1))))

  -- ---- the law

  module _ (cut : flat_map batch_places round.batches ≡ round.snapshot.dirty) (ascending : IsAscending round.snapshot.dirty) where
    ordered_pages : SameBag (all_round_pages round.snapshot.image.table [] (in_order round)) (round_of round.snapshot.image round.snapshot.dirty)
    ordered_pages = subst (λ (l : List Place). SameBag (all_round_pages round.snapshot.image.table [] (in_order round))
        (round_of round.snapshot.image l)) cut pages_in_order

    -- the pages that the packets bring are those of the round, in some order
    pub pages_dealt : SameBag (dealt_pages round.snapshot.image.table round) (round_of round.snapshot.image round.snapshot.dirty)
    pages_dealt =
        bag_trans (dealt_pages round.snapshot.image.table round) (all_round_pages round.snapshot.image.table [] (in_order round))
        (round_of round.snapshot.image round.snapshot.dirty)
        (bag_flat_map (packet_pages round.snapshot.image.table) (dealt_fields round) (in_order round) dealt_in_order) ordered_pages

    ordered_is_lawful : IsLawful round.snapshot.image.table round.base [] (in_order round)
    ordered_is_lawful =
        let count : length (numbers (in_order round)) ≡ packet_count round =
        length-map (in_order round) (λ (packet : Fields). packet.number) ∙ length-in_order round in
        let run : range_with_len round.base (length (numbers (in_order round))) ≡ numbers (in_order round) =
        ap (range_with_len round.base) count ∙ sym (numbers-in_order round) in
        record {
          has_run = subst (λ (l : List ℕ). IsPermutation (range_with_len round.base (length (numbers (in_order round)))) l) run
              (IsPermutation-refl (range_with_len round.base (length (numbers (in_order round)))));
          has_places = right_places;
          has_each_once = none_again round.snapshot.image round.snapshot.dirty
              (all_round_pages round.snapshot.image.table [] (in_order round)) ascending ordered_pages;
        }

    pub bring_the_round : BringTheRound round.snapshot.image.table round
    bring_the_round = record {
      are_lawful = refusal_bag round.snapshot.image.table round.base [] (dealt_fields round) (in_order round) dealt_in_order
          ∙ (round_is_lawful round.snapshot.image.table round.base [] (in_order round)).1 ordered_is_lawful;
      as_many = bag_length (dealt_fields round) (in_order round) dealt_in_order ∙ length-in_order round;
      same_memory = λ m. same_memory m (dealt_pages round.snapshot.image.table round) (round_of round.snapshot.image round.snapshot.dirty)
          (same_last round.snapshot.image round.snapshot.dirty (dealt_pages round.snapshot.image.table round) pages_dealt);
    }

-- a round's packets bring it, and its pages are theirs, in some order
pub record IsBrought (table : RamTable) (round : DealtRound) : Type 0 where
  pub bring : BringTheRound table round
  pub has_pages : SameBag (dealt_pages table round) (round_of round.snapshot.image round.snapshot.dirty)

-- HOWEVER A ROUND WAS DEALT, its packets bring it
pub is_brought : (table : RamTable) (limit channels : ℕ) (round : DealtRound) → limit ≤ page_limit table.page_size
    → round.base + packet_count round ≤ 2 ^ 64 → IsDealtRound table limit channels round → IsBrought table round
is_brought table limit channels round le fits dealt =
    let places : IsPlaceSet (record { table = round.snapshot.image.table; marked = round.snapshot.dirty }) =
    subst (λ (t : RamTable). IsPlaceSet (record { table = t; marked = round.snapshot.dirty })) (sym dealt.has_table) dealt.has_places in
    let room : limit ≤ page_limit round.snapshot.image.table.page_size = subst (λ (t : RamTable). limit ≤ page_limit t.page_size) (sym dealt.has_table) le in
    let batches : All (IsBatch round.snapshot.image.table) round.batches =
    batches_fit (record { table = round.snapshot.image.table; marked = round.snapshot.dirty }) limit round.batches places room dealt.has_batches in
    subst (λ (t : RamTable). IsBrought t round) dealt.has_table (record {
      bring = bring_the_round round places.has_table dealt.has_image batches dealt.has_shares fits dealt.has_batches.has_all places.is_ascending;
      has_pages = pages_dealt round places.has_table dealt.has_image batches dealt.has_shares fits dealt.has_batches.has_all places.is_ascending;
    })

-- a round brings its pages however its packets were dealt
pub dealt_rounds_are_lawful : DealtRoundsAreLawful
dealt_rounds_are_lawful table limit channels round le fits dealt = (is_brought table limit channels round le fits dealt).bring
