-- A load goes on to the next round: the memory has the one before it.
use Rattle.std.proofs.Common.{ℕ, ◌≡◌, ◌≢◌, ◌+◌, ◌<◌, ◌≤◌, ◌&&◌, Bool, true, false, List, [], ◌∷◌, ◌++◌, length, map, get_or, Option, Some, None, refl, sym, ap}
use Rattle.std.proofs.Common.{subst, ◌∙◌, append_assoc, inl, inr, arith}
use Rattle.std.specs.Prelude.{if◌then◌else◌, IsTrue, IsFalse, IfSome, zip, IsPermutation, is_none}
use Rattle.std.specs.List.{AllZip, All, flat_map, range_with_len, list_all}
use Rattle.std.specs.Option.{option_and_then, option_map_or, is_some}
use Rattle.std.proofs.Math.ListN.{get_or-eq_default}
use Rattle.std.proofs.lemmas.Bool.{cases_Bool, cases_order, and_parts, or_right}
use Rattle.std.proofs.lemmas.List.{append-nil, length-map, map-append}
use Rattle.std.proofs.lemmas.List.Concat.{flat_map-append}
use Rattle.std.proofs.lemmas.List.Folds.{list_any_none}
use Rattle.std.proofs.lemmas.List.FromFn.{map-range_with_len_more}
use Rattle.std.proofs.lemmas.List.Elements.{All-head, All-tail, All-nil, All-cons, All-append, All-weaker}
use Rattle.std.proofs.lemmas.List.Sorted.{IsPermutation-refl, IsPermutation-append_left, IsPermutation-append_comm, IsPermutation-trans}
use Rattle.mig_mem.specs.PageSize.{IsPageSize}
use Rattle.mig_mem.specs.declared.place.Place.{Place}
use Rattle.mig_mem.specs.RamTable.{RamTable}
use Rattle.mig_mem.specs.Place.{has_place, place_eq}
use Rattle.mig_mem.specs.PlaceSet.{PlaceSet}
use Rattle.mig_mem.specs.Image.{Page, Image, content_at}
use Rattle.mig_mem.specs.Round.{with_round, with_rounds, last_at}
use Rattle.mig_mem.proofs.Images.{image_agree}
use Rattle.mig_mem.proofs.Rounds.{onto-push}
use Rattle.mig_mem.proofs.PlaceOrder.{place_eq-from}
use Rattle.mig_stream.specs.PageRecord.{PageRecord, page_of}
use Rattle.mig_stream.specs.Reading.{StreamReading}
use Rattle.mig_packet.specs.Packet.{Fields, fields_of}
use Rattle.mig_packet.specs.Reading.{Settings, ChannelReading, IsReading}
use Rattle.mig_packet.specs.Paging.{GivenSoFar, OpenPacket}
use Rattle.mig_assemble.specs.declared.fault.RoundFault.{RoundFault}
use Rattle.mig_assemble.specs.Judging.{refusal, place_fault, packet_pages, places_of, numbers}
use Rattle.mig_assemble.specs.Arrivals.{Arrival, Records, OnePacket, records_in, packets_in, pages_that_came}
use Rattle.mig_assemble.specs.NamedPlaces.{HasPlaces, AddsArrivals}
use Rattle.mig_assemble.proofs.Arriving.{came_in_order, packets_push}
use Rattle.mig_assemble.proofs.Bags.{SameBag, bag_permutation, bag_length, bag_behind, bag_flat_map}
use Rattle.mig_assemble.proofs.OrderFree.{last_at-same, lawful_once}
use Rattle.mig_assemble.proofs.Lawful.{lawful_lies_right}
use Rattle.mig_assemble.proofs.Putting.{put_after}
use Rattle.mig_load_types.specs.Settings.{main_of, for_table, channel_of}
use Rattle.mig_load_types.specs.declared.settings.LoadSettings.{LoadSettings}
use Rattle.mig_answer.specs.Texts.{Text, Readings, IsMainReading}
use Rattle.mig_answer.specs.Rounds.{record_pages_at, channel_packets_at, packets_at, base_at, refusal_at, pages_at, places_in_rounds}
use Rattle.mig_answer.specs.Status.{is_whole}
use Rattle.mig_answer.specs.MultiLoad.{Standing, passes, sources_at, hello_ids, repeated_hello}
use Rattle.mig_answer.proofs.Putting.{packets_counted, base_more}
use Rattle.mig_stream.specs.Reader.{Stands, HasRound}
use Rattle.mig_sources.specs.declared.counts.Count.{Count}
use Rattle.mig_in_place.specs.Answer.{rounds_onto}
use Rattle.mig_packet.specs.PacketHead.{as_zeros, offsets_in}
use Rattle.mig_in_place.specs.Round.{KeptRound, Keeps, AlsoKeeps}
use Rattle.mig_in_place.specs.Sources.{at_next_round, channel_count, IsChannelOf, KeptMain, KeptChannel, HoldsMain, HoldsChannel, HoldsRound, WritesPages}
use Rattle.mig_in_place.specs.Sources.{HasTakenRecords, StandsAt, so_far_of, heads_given, heads_begun, packets_given, pages_given, pages_begun, named_places}
use Rattle.mig_in_place.specs.Sources.{head_places, rounds_come}
use Rattle.mig_in_place.specs.Session.{InPlaceLoad, IsRunning, Loading, Loads, IsDue, PassesAt, IsMainOf, records_come}
use Rattle.mig_in_place.proofs.Channels.{rounds_are}
use Rattle.mig_in_place.proofs.Keeping.{same_table}
use Rattle.mig_answer.proofs.NamedRounds.{rounds_more}
use Rattle.mig_in_place.proofs.MissingPages.{has_same, bag_places, heads_places}
use Rattle.mig_in_place.proofs.Lawful.{packets_of, heads_whole, fields_mapped, main_whole, channels_have, has_table, judged_as, all_packets, all_records}
use Rattle.mig_in_place.proofs.Mains.{same_found}
use Rattle.mig_in_place.proofs.NamedSoFar.{in_second, or_left}

-- ---- the pages of a round that all sources have

abbrev pub pages_of : RamTable → List ℕ → List Page
pages_of table packet = packet_pages table (fields_of table.page_size packet)

all_given : (given : Settings) (table : RamTable) (k : ℕ) (texts : List Text) (gave : List GivenSoFar) (channels : List
    KeptChannel) (readings : List ChannelReading) → IsPageSize given.page_size
    → length gave ≡ length texts → AllZip (λ c kept. HoldsChannel given table k c.0 c.1 kept) (zip texts gave) channels
    → AllZip (λ (text : Text) (reading : ChannelReading). IsReading given text.bytes text.ended reading) texts readings
    → All (λ (r : ChannelReading). k < length r.rounds) readings
    → flat_map (pages_given table k) gave ≡ flat_map (packet_pages table) (flat_map (channel_packets_at table.page_size k) readings)
all_given given table k [] [] channels [] size many holds are all = refl
all_given given table k [] [] channels (r ∷ readings) size many holds are all = absurd are
all_given given table k [] (g ∷ gave) channels readings size many holds are all = absurd (omega (arith, many))
all_given given table k (text ∷ texts) [] channels readings size many holds are all = absurd (omega (arith, many))
all_given given table k (text ∷ texts) (g ∷ gave) [] readings size many holds are all = absurd holds
all_given given table k (text ∷ texts) (g ∷ gave) (c ∷ channels) [] size many holds are all = absurd are
all_given given table k (text ∷ texts) (g ∷ gave) (c ∷ channels) (r ∷ readings) size many holds are all =
    let here = heads_whole given table k text g c r size holds.0 are.0 (All-head (λ (x : ChannelReading). k < length x.rounds) r readings all) in
    let bytes : packets_given k g ≡ packets_of k r = sym (append-nil (packets_given k g))
    ∙ ap (λ (o : Option OpenPacket). packets_given k g ++ heads_begun o) (sym here.2) ∙ here.1 in
    let mine : pages_given table k g ≡ flat_map (packet_pages table) (channel_packets_at table.page_size k r) =
    ap (λ (o : Option OpenPacket). flat_map (pages_of table) (packets_given k g) ++ pages_begun table o) here.2
    ∙ append-nil (flat_map (pages_of table) (packets_given k g))
    ∙ ap (λ (l : List (List ℕ)). flat_map (pages_of table) l) bytes ∙ sym (mapped (packets_of k r)) in
    ap (λ (l : List Page). l ++ flat_map (pages_given table k) gave) mine
    ∙ ap (λ (l : List Page). flat_map (packet_pages table) (channel_packets_at table.page_size k r) ++ l)
    (all_given given table k texts gave channels readings size (omega (arith, many)) holds.1 are.1
    (All-tail (λ (x : ChannelReading). k < length x.rounds) r readings all))
    ∙ sym (flat_map-append (packet_pages table) (channel_packets_at table.page_size k r) (flat_map (channel_packets_at table.page_size k) readings))
  where
    mapped : (packets : List (List ℕ)) → flat_map (packet_pages table) (map (fields_of table.page_size) packets) ≡ flat_map (pages_of table) packets
    mapped [] = refl
    mapped (packet ∷ packets) = ap (λ (l : List Page). pages_of table packet ++ l) (mapped packets)

-- what passes isn't refused
not_refused : (k : ℕ) (readings : Readings) → IsTrue (passes k readings) → refusal_at k readings ≡ None
not_refused k readings t =
    let before : Bool = list_all (λ (s : Standing). is_whole s.status) (sources_at k readings) && is_none (repeated_hello (hello_ids readings)) in
    none_of (refusal_at k readings) (and_parts before (is_none (refusal_at k readings)) t).1
  where
    none_of : (o : Option RoundFault) → is_none o ≡ true → o ≡ None
    none_of None e = refl
    none_of (Some x) e = absurd cc

-- ---- one round more

module _ (f : Loading) (memory : Image) (s : InPlaceLoad) (loads : Loads f memory s) (due : IsDue f s.rounds) (passing : PassesAt f s.rounds) where
  abbrev given : LoadSettings
  given = for_table f.first.table f.given

  abbrev r : IsRunning given f.uuid f.first f.texts memory s
  r = loads.is_running

  abbrev k : ℕ
  k = s.rounds

  abbrev table : RamTable
  table = f.first.table

  abbrev channel_given : Settings
  channel_given = channel_of given f.uuid (length f.texts.channels)

  abbrev kept : Image
  kept = rounds_onto f.first k r.readings

  abbrev holds : HoldsRound table kept k (record { records = records_come table.page_size k r.readings s.sources.main; channels = r.gave }) s.round memory
  holds = r.own (has_table f memory s loads due)

  lawful : refusal table s.base (records_in holds.arrivals) (packets_in holds.arrivals) ≡ None
  lawful = sym (judged_as f memory s loads due) ∙ not_refused k r.readings (passing r.readings r.are_readings)

  lawful_here : refusal_at k r.readings ≡ None
  lawful_here = not_refused k r.readings (passing r.readings r.are_readings)

  -- no page is misplaced
  pub right : IsFalse s.round.has_misplaced
  right =
      let all : All (λ q. place_fault table q ≡ None) (packets_in holds.arrivals) =
      lawful_lies_right table s.base (records_in holds.arrivals) (packets_in holds.arrivals) lawful in
      let sound : All (λ q. is_some (place_fault table q) ≡ false) (packets_in holds.arrivals) =
      All-weaker (λ q. place_fault table q ≡ None) (λ q. is_some (place_fault table q) ≡ false)
      (λ q none. ap (λ (o : Option RoundFault). is_some o) none) (packets_in holds.arrivals) all in
      holds.keeps.has_misplaced ∙ list_any_none (λ (q : Fields). is_some (place_fault table q)) (packets_in holds.arrivals) sound

  all_pages : IsPermutation holds.written (pages_at table k r.readings)
  all_pages =
      let records : records_come table.page_size k r.readings s.sources.main ≡ record_pages_at table.page_size k r.readings =
      ap (λ (b : Bool). if b then record_pages_at table.page_size k r.readings else []) (main_whole f memory s loads due) in
      let packets : flat_map (pages_given table k) r.gave ≡ flat_map (packet_pages table) (packets_at table.page_size k r.readings) =
      all_given channel_given table k f.texts.channels r.gave s.sources.channels r.readings.channels loads.is_table.has_page_size
      r.as_many r.channels r.are_readings.has_channels
      (channels_have f memory s loads due) in
      subst (λ (l : List Page). IsPermutation holds.written l)
      (ap (λ (l : List Page). l ++ flat_map (pages_given table k) r.gave) records
      ∙ ap (λ (l : List Page). record_pages_at table.page_size k r.readings ++ l) packets)
      (holds.are_all right)

  -- the memory has the round
  pub has_next : memory ≡ rounds_onto f.first (k + 1) r.readings
  has_next =
      let pages : List Page = pages_at table k r.readings in
      let bag : SameBag holds.written pages = bag_permutation holds.written pages all_pages in
      let same_refusal : refusal table (base_at k r.readings) (record_pages_at table.page_size k r.readings) (packets_at table.page_size k r.readings) ≡ None =
      subst (λ (o : Option RamTable). option_and_then
      (λ t. refusal t (base_at k r.readings) (record_pages_at t.page_size k r.readings) (packets_at t.page_size k r.readings)) o ≡ None)
      (has_table f memory s loads due) lawful_here in
      let once = lawful_once table (base_at k r.readings) (record_pages_at table.page_size k r.readings)
      (packets_at table.page_size k r.readings) same_refusal in
      holds.has_memory
      ∙ image_agree kept.table (λ p. option_map_or (λ (x : Page). x.content) (last_at p holds.written) (content_at kept p))
      (λ p. option_map_or (λ (x : Page). x.content) (last_at p pages) (content_at kept p))
      (λ p _. ap (λ (o : Option Page). option_map_or (λ (x : Page). x.content) o (content_at kept p)) (last_at-same p holds.written pages bag once))
      ∙ sym (onto-push f.first (map (λ i. pages_at table i r.readings) (range_with_len 0 k)) pages)
      ∙ ap (λ (l : List (List Page)). with_rounds f.first l) (sym (map-range_with_len_more (λ i. pages_at table i r.readings) 0 k k (omega arith)))

  -- the places that came are those of the round
  came_named : (p : Place) → has_place (places_of (pages_that_came table holds.arrivals)) p ≡ has_place (places_of (pages_at table k r.readings)) p
  came_named p =
      let came : List Fields = packets_in holds.arrivals in
      let records : List Page = records_in holds.arrivals in
      let H : List (List ℕ) = flat_map (packets_of k) r.readings.channels in
      let zeros : List Fields = map as_zeros H in
      let right : All (λ q. place_fault table q ≡ None) came = lawful_lies_right table s.base records came lawful in
      let arrived : List Page = pages_that_came table holds.arrivals in
      let in_order : List Page = records ++ flat_map (packet_pages table) came in
      let by_heads : List Page = records ++ flat_map (packet_pages table) zeros in
      bag_places arrived in_order p (bag_permutation arrived in_order (came_in_order table holds.arrivals right))
      ∙ bag_places in_order by_heads p (bag_behind records (flat_map (packet_pages table) came) (flat_map (packet_pages table) zeros)
      (bag_flat_map (packet_pages table) came zeros (bag_permutation came zeros (all_packets f memory s loads due))))
      ∙ ap (λ (l : List Place). has_place l p)
      (map-append (λ (x : Page). x.place) records (flat_map (packet_pages table) zeros)
      ∙ ap (λ (l : List Place). places_of records ++ l) (heads_places table H)
      ∙ sym (map-append (λ (x : Page). x.place) records (flat_map (packet_pages table) (map (fields_of table.page_size) H)))
      ∙ ap (λ (l : List Fields). places_of (records ++ flat_map (packet_pages table) l)) (fields_mapped table.page_size k r.readings.channels)
      ∙ ap (λ (l : List Page). places_of (l ++ flat_map (packet_pages table) (packets_at table.page_size k r.readings))) (all_records f memory s loads due))

  pub named_next : (named : PlaceSet) → AddsArrivals s.round.arrivals s.named named → HasPlaces table (places_in_rounds table (k + 1) r.readings) named
  named_next named adds =
      let before : List Place = places_in_rounds table k r.readings in
      let last : List Place = places_of (pages_at table k r.readings) in
      subst (λ (l : List Place). HasPlaces table l named) (sym (rounds_more table k r.readings))
      (has_same table before (places_of (pages_that_came table holds.arrivals)) last named came_named
      (adds table before holds.arrivals holds.keeps.has_come r.has_named))

  -- nothing more was written
  pub put_nothing : rounds_onto f.first (k + 1) r.readings ≡ with_round (rounds_onto f.first (k + 1) r.readings) []
  put_nothing =
      let pages : List Page = holds.written in
      let here : rounds_onto f.first (k + 1) r.readings ≡ with_round kept pages = sym has_next ∙ holds.has_memory in
      here ∙ ap (λ (l : List Page). with_round kept l) (sym (append-nil pages)) ∙ sym (put_after kept pages []) ∙ ap (λ (m : Image). with_round m []) (sym here)

  pub counted : (base : ℕ) → base ≡ s.base + length s.round.arrivals.numbers → base ≡ base_at (k + 1) r.readings
  counted base is =
      let came : List Fields = packets_in holds.arrivals in
      let H : List (List ℕ) = flat_map (packets_of k) r.readings.channels in
      let numbered : length s.round.arrivals.numbers ≡ length came =
      sym (bag_length (numbers came) s.round.arrivals.numbers (bag_permutation (numbers came) s.round.arrivals.numbers holds.keeps.has_come.has_numbers))
      ∙ length-map came (λ (q : Fields). q.number) in
      let packets : length came ≡ length (packets_at table.page_size k r.readings) =
      bag_length came (map as_zeros H) (bag_permutation came (map as_zeros H) (all_packets f memory s loads due))
      ∙ length-map H as_zeros ∙ sym (length-map H (fields_of table.page_size))
      ∙ ap (λ (l : List Fields). length l) (fields_mapped table.page_size k r.readings.channels) in
      is ∙ ap (λ (n : ℕ). n + length s.round.arrivals.numbers) r.has_base
      ∙ ap (λ (n : ℕ). base_at k r.readings + n) (numbered ∙ packets ∙ packets_counted table.page_size k r.readings) ∙ base_more k r.readings

  pub passed_next : (j : ℕ) → j < k + 1 → IsTrue (passes j r.readings)
  passed_next j below = elim (cases_order j k) [
    | inl e ↦ subst (λ (i : ℕ). IsTrue (passes i r.readings)) (sym e) (passing r.readings r.are_readings)
    | inr ne ↦ elim ne [
      | inl lt ↦ r.have_passed j lt
      | inr gt ↦ absurd (omega (arith, below, gt))
    ]
  ]

-- ---- the next round begins

-- each channel goes on
channels_next : (given : Settings) (table : RamTable) (k : ℕ) (texts : List Text) (gave : List GivenSoFar) (channels : List
    KeptChannel) (readings : List ChannelReading) → IsPageSize given.page_size
    → length gave ≡ length texts → AllZip (λ c kept. HoldsChannel given table k c.0 c.1 kept) (zip texts gave) channels
    → AllZip (λ (text : Text) (reading : ChannelReading). IsReading given text.bytes text.ended reading) texts readings
    → All (λ (r : ChannelReading). k < length r.rounds) readings
    → AllZip (λ c kept. HoldsChannel given table (k + 1) c.0 c.1 kept) (zip texts gave) (map at_next_round channels)
    × (flat_map (heads_given (k + 1)) gave ≡ []) × (flat_map (pages_given table (k + 1)) gave ≡ []) × AllZip WritesPages gave (map at_next_round channels)
channels_next given table k [] [] [] readings size many holds are all = (tt, refl, refl, tt)
channels_next given table k [] [] (c ∷ channels) readings size many holds are all = absurd holds
channels_next given table k [] (g ∷ gave) channels readings size many holds are all = absurd (omega (arith, many))
channels_next given table k (text ∷ texts) [] channels readings size many holds are all = absurd (omega (arith, many))
channels_next given table k (text ∷ texts) (g ∷ gave) [] readings size many holds are all = absurd holds
channels_next given table k (text ∷ texts) (g ∷ gave) (c ∷ channels) [] size many holds are all = absurd are
channels_next given table k (text ∷ texts) (g ∷ gave) (c ∷ channels) (r ∷ readings) size many holds are all =
    let whole = heads_whole given table k text g c r size holds.0 are.0 (All-head (λ (x : ChannelReading). k < length x.rounds) r readings all) in
    let rest = channels_next given table k texts gave channels readings size (omega (arith, many)) holds.1 are.1
    (All-tail (λ (x : ChannelReading). k < length x.rounds) r readings all) in
    let h : HoldsChannel given table k text g c = holds.0 in
    let count : length g.read.rounds ≡ k + 1 = h.has_rounds ∙ ap (rounds_come k) whole.0 in
    let none : packets_given (k + 1) g ≡ [] = get_or-eq_default g.read.rounds g.read.packets (omega (arith, count)) ∙ whole.3 in
    let heads : heads_given (k + 1) g ≡ [] = ap (λ (o : Option OpenPacket). packets_given (k + 1) g ++ heads_begun o) whole.2
    ∙ ap (λ (l : List (List ℕ)). l ++ []) none in
    let pages : pages_given table (k + 1) g ≡ [] =
    ap (λ (o : Option OpenPacket). flat_map (pages_of table) (packets_given (k + 1) g) ++ pages_begun table o) whole.2
    ∙ ap (λ (l : List (List ℕ)). flat_map (pages_of table) l ++ []) none in (
      (
        record {
          gives = h.gives;
          has_ended = h.has_ended;
          has_rounds = count;
          is_between = λ t. absurd cc;
          has_hello = h.has_hello;
          has_missing = h.has_missing;
          has_block = h.has_block;
        },
        rest.0,
      ),
      ap (λ (l : List (List ℕ)). l ++ flat_map (heads_given (k + 1)) gave) heads ∙ rest.1,
      ap (λ (l : List Page). l ++ flat_map (pages_given table (k + 1)) gave) pages ∙ rest.2,
      (subst (λ (o : Option OpenPacket). IfSome o (λ packet. length (offsets_in packet.head) ≢ 0 → c.block ≢ None)) (sym whole.2) tt, rest.3),
    )

-- ---- records

-- each of some pages has its place among theirs
pub own_named : (pages : List Page) (N : List Place) → All (λ page. IsTrue (has_place (places_of pages ++ N) page.place)) pages
own_named [] N = All-nil (λ page. IsTrue (has_place N page.place))
own_named (x ∷ pages) N =
    All-cons (λ page. IsTrue (has_place (places_of (x ∷ pages) ++ N) page.place)) x pages
    (or_left (place_eq x.place x.place) (has_place (places_of pages ++ N) x.place) (place_eq-from x.place x.place refl))
    (All-weaker (λ page. IsTrue (has_place (places_of pages ++ N) page.place)) (λ page. IsTrue (has_place (places_of (x ∷ pages) ++ N) page.place))
    (λ page t. or_right (place_eq x.place page.place) (has_place (places_of pages ++ N) page.place) t) pages (own_named pages N))

-- the records of a round are added to one that has none
pub records_added : (table : RamTable) (kept : Image) (k : ℕ) (pages : List Page) (channels : List GivenSoFar)
    (r after : KeptRound) (memory changed : Image) → AlsoKeeps (Records pages) r after
    → after.has_misplaced ≡ r.has_misplaced → (IsFalse r.has_misplaced → changed ≡ with_round memory pages) → (IsTrue r.has_misplaced → changed ≡ memory)
    → HoldsRound table kept k (record { records = []; channels = channels }) r memory
    → HoldsRound table kept k (record { records = pages; channels = channels }) after changed
records_added table kept k pages channels r after memory changed also misplaced put same holds =
    let N : List Place = flat_map (head_places table) (flat_map (heads_given k) channels) in
    let more : List Arrival = holds.arrivals ++ Records pages ∷ [] in
    let records : records_in more ≡ pages = records_more holds.arrivals ∙ ap (λ (l : List Page). l ++ pages) holds.has_records in
    let packets : packets_in more ≡ packets_in holds.arrivals = packets_push holds.arrivals (Records pages) ∙ append-nil (packets_in holds.arrivals) in
    let has_packets : IsPermutation (packets_in more) (map as_zeros (flat_map (heads_given k) channels)) =
    subst (λ (l : List Fields). IsPermutation l (map as_zeros (flat_map (heads_given k) channels))) (sym packets) holds.has_packets in
    let named : All (λ page. IsTrue (has_place (places_of pages ++ N) page.place)) holds.written =
    All-weaker (λ page. IsTrue (has_place N page.place)) (λ page. IsTrue (has_place (places_of pages ++ N) page.place))
    (λ page t. in_second (places_of pages) N page.place t) holds.written holds.are_named in
    elim (cases_Bool r.has_misplaced) [
      | inl wrong ↦ record {
        arrivals = more;
        keeps = also table holds.arrivals holds.keeps;
        has_records = records;
        has_packets = has_packets;
        written = holds.written;
        has_memory = same wrong ∙ holds.has_memory;
        are_named = named;
        are_all = λ right. absurd (let clash : IsFalse r.has_misplaced = sym misplaced ∙ right in cc);
      }
      | inr right ↦ record {
        arrivals = more;
        keeps = also table holds.arrivals holds.keeps;
        has_records = records;
        has_packets = has_packets;
        written = holds.written ++ pages;
        has_memory = put right ∙ ap (λ (m : Image). with_round m pages) holds.has_memory ∙ put_after kept holds.written pages;
        are_named = All-append (λ page. IsTrue (has_place (places_of pages ++ N) page.place)) holds.written pages named (own_named pages N);
        are_all = λ _. IsPermutation-trans (holds.written ++ pages) (flat_map (pages_given table k) channels ++ pages)
            (pages ++ flat_map (pages_given table k) channels)
            (IsPermutation-append_left pages holds.written (flat_map (pages_given table k) channels) (holds.are_all right))
            (IsPermutation-append_comm (flat_map (pages_given table k) channels) pages);
      }
    ]
  where
    records_more : (came : List Arrival) → records_in (came ++ Records pages ∷ []) ≡ records_in came ++ pages
    records_more [] = append-nil pages
    records_more (Records xs ∷ came) = ap (λ (l : List Page). xs ++ l) (records_more came) ∙ sym (append_assoc xs (records_in came) pages)
    records_more (OnePacket q ∷ came) = records_more came

-- the records that a main stream gave are those of its reading
records_are : (given : LoadSettings) (size k : ℕ) (text : Text) (readings : Readings) (records : List PageRecord)
    → IsPageSize given.page_size → given.page_size ≡ size → IsMainReading given text readings.main
    → HasRound (main_of given) text.bytes k records → map (page_of given.page_size) records ≡ record_pages_at size k readings
records_are given size k text readings records is_size same is has =
    let rounds : readings.main.rounds ≡ has.0.rounds = ap (λ (x : StreamReading). x.rounds) (same_found given text has.0 readings.main is_size has.1 is) in
    let here : get_or readings.main.rounds k [] ≡ records = ap (λ (l : List (List PageRecord)). get_or l k []) rounds ∙ has.3 in
    ap (λ (n : ℕ). map (page_of n) records) same ∙ ap (λ (l : List PageRecord). map (page_of size) l) (sym here)

-- what the main stream gave is taken
pub main_taken : (given : LoadSettings) (table : RamTable) (kept : Image) (k : ℕ) (text : Text) (readings : Readings) (gave : List
    GivenSoFar) (m next : KeptMain) (r after : KeptRound) (memory changed : Image)
    → IsPageSize given.page_size → given.page_size ≡ table.page_size → IsMainReading given text readings.main
    → StandsAt (main_of given) k text m → IsFalse m.is_whole
    → HasTakenRecords (main_of given) k text m r memory next after changed → HoldsRound table kept k (record { records = []; channels = gave }) r memory
    → HoldsMain (main_of given) k text next × HoldsRound table kept k
    (record { records = records_come table.page_size k readings next; channels = gave }) after changed × (after.has_misplaced ≡ r.has_misplaced)
main_taken given table kept k text readings gave m next r after memory changed size same is stands open_ taken holds = elim taken [
  | inl none ↦
      let at : HoldsMain (main_of given) k text m = record { stands = stands; has_none = none.3 } in
      let come : records_come table.page_size k readings m ≡ [] = ap (λ (b : Bool). if b then record_pages_at table.page_size k readings else []) open_ in
      let here : HoldsRound table kept k (record { records = records_come table.page_size k readings m; channels = gave }) r memory =
      subst (λ (l : List Page). HoldsRound table kept k (record { records = l; channels = gave }) r memory) (sym come) holds in (
        subst (λ (x : KeptMain). HoldsMain (main_of given) k text x) (sym none.0) at,
        subst (λ (x : KeptMain). HoldsRound table kept k
            (record { records = records_come table.page_size k readings x; channels = gave }) after changed) (sym none.0)
            (subst (λ (x : KeptRound). HoldsRound table kept k
            (record { records = records_come table.page_size k readings m; channels = gave }) x changed) (sym none.1)
            (subst (λ (x : Image). HoldsRound table kept k
            (record { records = records_come table.page_size k readings m; channels = gave }) r x) (sym none.2) here)),
        ap (λ (x : KeptRound). x.has_misplaced) none.1,
      )
  | inr t ↦
      let pages : List Page = map (page_of given.page_size) t.records in
      let come : records_come table.page_size k readings next ≡ pages =
      ap (λ (b : Bool). if b then record_pages_at table.page_size k readings else []) t.is_whole
      ∙ sym (records_are given table.page_size k text readings t.records size same is t.has_records) in
      let here : HoldsRound table kept k (record { records = pages; channels = gave }) after changed =
      records_added table kept k pages gave r after memory changed t.also t.same_misplaced t.right t.wrong holds in (
        record { stands = t.stands; has_none = λ f. absurd (let whole = t.is_whole in cc) },
        subst (λ (l : List Page). HoldsRound table kept k (record { records = l; channels = gave }) after changed) (sym come) here,
        t.same_misplaced,
      )
]

-- ---- the load goes on

-- a main stream that has the round stands at the next one
pub stands_next : (f : Loading) (memory : Image) (s : InPlaceLoad) (loads : Loads f memory s) (due : IsDue f s.rounds)
    → StandsAt (main_of (for_table f.first.table f.given)) (s.rounds + 1) f.texts.main (record s.sources.main { is_whole = false })
stands_next f memory s loads due =
    subst (λ (n : ℕ). Stands (main_of (for_table f.first.table f.given)) (so_far_of f.texts.main n) s.sources.main.reader)
    (ap (rounds_come s.rounds) (main_whole f memory s loads due))
    loads.is_running.main.stands

-- a main stream of the memory's table, or of none yet, stays so at the next round
pub next_main : (table : RamTable) (m : KeptMain) → IsMainOf table m → IsMainOf table (record m { is_whole = false })
next_main _ m is = record {
  given = is.given;
  k = rounds_come is.k m.is_whole;
  text = is.text;
  stands = is.stands;
  is_page_size = is.is_page_size;
  has_page_size = is.has_page_size;
  is_own = is.is_own;
}

-- the channels of a load into a table's memory stay so at the next round
pub next_channels : (table : RamTable) (channels : List KeptChannel) → All (IsChannelOf table) channels → All (IsChannelOf table) (map at_next_round channels)
next_channels t [] all = All-nil (IsChannelOf t)
next_channels t (c ∷ channels) all =
    let is = All-head (IsChannelOf t) c channels all in
    All-cons (IsChannelOf t) (at_next_round c) (map at_next_round channels)
    (record { given = is.given; text = is.text; so_far = is.so_far; has_page_size = is.has_page_size; gives = is.gives; has_block = is.has_block })
    (next_channels t channels (All-tail (IsChannelOf t) c channels all))

-- going on to the next round changes no count of a channel
pub next_counts : (channels : List KeptChannel) → map channel_count (map at_next_round channels) ≡ map channel_count channels
next_counts [] = refl
next_counts (c ∷ channels) = ap (λ (l : List Count). channel_count c ∷ l) (next_counts channels)

-- once a due round has passed, the load goes on with that round counted, and with the main
-- stream's next records taken, if they are complete
pub advanced : (f : Loading) (memory : Image) (s : InPlaceLoad) (loads : Loads f memory s) (due : IsDue f
    s.rounds) (passing : PassesAt f s.rounds) (cleared after : KeptRound) (next : KeptMain) (changed : Image) (base : ℕ) (named : PlaceSet)
    → Keeps s.round.arrivals.seen.table [] cleared → AddsArrivals s.round.arrivals s.named named → base ≡ s.base + length s.round.arrivals.numbers
    → HasTakenRecords (main_of (for_table f.first.table f.given)) (s.rounds + 1) f.texts.main
    (record s.sources.main { is_whole = false }) cleared memory next after changed
    → Loads f changed (record {
      table = s.table;
      sources = record { main = next; channels = map at_next_round s.sources.channels };
      round = after;
      rounds = s.rounds + 1;
      base = base;
      named = named;
      verdict = s.verdict;
    })
advanced f memory s loads due passing cleared after next changed base named keeps adds is_base taken =
    let given : LoadSettings = for_table f.first.table f.given in
    let r : IsRunning given f.uuid f.first f.texts memory s = loads.is_running in
    let k : ℕ = s.rounds in
    let table : RamTable = f.first.table in
    let size : IsPageSize given.page_size = loads.is_table.has_page_size in
    let known = has_table f memory s loads due in
    let holds = r.own known in
    let channels = channels_next (channel_of given f.uuid (length f.texts.channels)) table k f.texts.channels r.gave
    s.sources.channels r.readings.channels size r.as_many r.channels
    r.are_readings.has_channels (channels_have f memory s loads due) in
    let seen : s.round.arrivals.seen.table ≡ table = same_table table holds.arrivals s.round.arrivals holds.keeps.has_come in
    let begun : HoldsRound table (rounds_onto f.first (k + 1) r.readings) (k + 1) (record { records = []; channels = r.gave }) cleared memory = record {
      arrivals = [];
      keeps = subst (λ (t : RamTable). Keeps t [] cleared) seen keeps;
      has_records = refl;
      has_packets = subst (λ (l : List (List ℕ)). IsPermutation [] (map as_zeros l)) (sym channels.1) (IsPermutation-refl []);
      written = [];
      has_memory = has_next f memory s loads due passing ∙ put_nothing f memory s loads due passing;
      are_named = All-nil (λ page. IsTrue (has_place (named_places table (k + 1) (record { records = []; channels = r.gave })) page.place));
      are_all = λ _. subst (λ (l : List Page). IsPermutation [] l) (sym channels.2) (IsPermutation-refl []);
    } in
    let stands : StandsAt (main_of given) (k + 1) f.texts.main (record s.sources.main { is_whole = false }) = stands_next f memory s loads due in
    let main = main_taken given table (rounds_onto f.first (k + 1) r.readings) (k + 1) f.texts.main r.readings r.gave
    (record s.sources.main { is_whole = false }) next cleared after memory changed size refl
    r.are_readings.has_main stands refl taken begun in
    let no : r.readings.main.table ≡ None → ⊥ = λ none. (let clash : None ≡ Some table = sym none ∙ known in cc) in
    record {
      is_table = loads.is_table;
      is_image = loads.is_image;
      same_table = loads.same_table;
      is_running = record {
        readings = r.readings;
        are_readings = r.are_readings;
        is_own = r.is_own;
        have_passed = passed_next f memory s loads due passing;
        main = main.0;
        gave = r.gave;
        as_many = r.as_many;
        has_channel = r.has_channel;
        channels = channels.0;
        has_base = counted f memory s loads due passing base is_base;
        has_named = named_next f memory s loads due passing named adds;
        own = λ _. main.1;
        writes = λ _ _. channels.3;
        unknown = λ none. absurd (no none);
        is_unwritten = λ none. absurd (no none);
        awaited = λ none. absurd (no none);
      };
    }

-- ---- no round is due right after another

-- at the next round no channel has that round complete
pub next_open : (channels : List KeptChannel) → All (λ c. IsFalse c.is_whole) (map at_next_round channels)
next_open [] = All-nil (λ (c : KeptChannel). IsFalse c.is_whole)
next_open (c ∷ channels) = All-cons (λ (c : KeptChannel). IsFalse c.is_whole) (at_next_round c) (map at_next_round channels) refl (next_open channels)

none_has : (given : Settings) (t : RamTable) (k : ℕ) (texts : List Text) (gave : List GivenSoFar) (channels : List
    KeptChannel) (readings : List ChannelReading) → IsPageSize given.page_size → 1 ≤ length texts
    → length gave ≡ length texts → AllZip (λ c kept. HoldsChannel given t k c.0 c.1 kept) (zip texts gave) channels
    → AllZip (λ (text : Text) (reading : ChannelReading). IsReading given text.bytes text.ended reading) texts readings
    → All (λ (r : ChannelReading). k < length r.rounds) readings
    → All (λ c. IsFalse c.is_whole) channels → ⊥
none_has given t k [] gave channels readings size some many holds are all open_ = omega (arith, some)
none_has given t k (text ∷ texts) [] channels readings size some many holds are all open_ = omega (arith, many)
none_has given t k (text ∷ texts) (g ∷ gave) [] readings size some many holds are all open_ = holds
none_has given t k (text ∷ texts) (g ∷ gave) (c ∷ channels) [] size some many holds are all open_ = are
none_has given t k (text ∷ texts) (g ∷ gave) (c ∷ channels) (r ∷ readings) size some many holds are all open_ =
    let count : length r.rounds ≡ k = rounds_are given t k text g c r size holds.0 are.0
    ∙ ap (rounds_come k) (All-head (λ (c : KeptChannel). IsFalse c.is_whole) c channels open_) in
    let below = All-head (λ (x : ChannelReading). k < length x.rounds) r readings all in omega (arith, count, below)

-- a round that no channel has complete isn't due
pub never_twice : (f : Loading) (memory : Image) (s : InPlaceLoad) (loads : Loads f memory s)
    → All (λ c. IsFalse c.is_whole) s.sources.channels → IsDue f s.rounds → ⊥
never_twice f memory s loads open_ due =
    let given : LoadSettings = for_table f.first.table f.given in
    let r : IsRunning given f.uuid f.first f.texts memory s = loads.is_running in
    none_has (channel_of given f.uuid (length f.texts.channels)) f.first.table s.rounds f.texts.channels r.gave s.sources.channels
    r.readings.channels loads.is_table.has_page_size r.has_channel r.as_many r.channels
    r.are_readings.has_channels (channels_have f memory s loads due) open_
