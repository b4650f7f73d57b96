-- A load has all rounds before its channels end: nothing of a further round was written. Or more
-- may come.
use Rattle.std.proofs.Common.{ℕ, ◌≡◌, ◌≢◌, Bool, true, false, List, [], ◌∷◌, ◌++◌, length, map, refl, sym, ap, ◌∙◌, inl, inr, arith}
use Rattle.std.specs.Prelude.{if◌then◌else◌, ◌⊎◌, IsTrue, IsFalse, zip}
use Rattle.std.specs.List.{All, AllZip, flat_map, list_all, range_with_len}
use Rattle.std.proofs.lemmas.Bool.{cases_Bool, cases_order, and_parts}
use Rattle.std.proofs.lemmas.List.{append-nil, length-map, nil_from_length}
use Rattle.std.proofs.lemmas.List.Elements.{All-head}
use Rattle.mig_mem.specs.PageSize.{IsPageSize}
use Rattle.mig_mem.specs.declared.place.Place.{Place}
use Rattle.mig_mem.specs.RamTable.{RamTable, IsTable}
use Rattle.mig_mem.specs.Place.{has_place}
use Rattle.mig_mem.specs.Image.{Page, Image, IsImage}
use Rattle.mig_mem.specs.Round.{with_round, all_pages}
use Rattle.mig_mem.proofs.Rounds.{onto-nil}
use Rattle.mig_stream.specs.declared.item.StreamState.{StreamState}
use Rattle.mig_stream.specs.declared.item.StreamState.TheVariants as stream_state
use Rattle.mig_stream.specs.Reading.{StreamReading}
use Rattle.mig_packet.specs.Packet.{Fields}
use Rattle.mig_packet.specs.Reading as channel
use Rattle.mig_packet.specs.Paging.{GivenSoFar}
use Rattle.mig_assemble.specs.Judging.{numbers, places_of}
use Rattle.mig_assemble.specs.Arrivals.{packets_in}
use Rattle.mig_assemble.proofs.Bags.{bag_permutation, bag_length}
use Rattle.mig_assemble.proofs.Elements.{contains_here, contains_later}
use Rattle.mig_assemble.proofs.Putting.{put_after}
use Rattle.mig_load_types.specs.Settings.{for_table, channel_of}
use Rattle.mig_load_types.specs.declared.settings.LoadSettings.{LoadSettings}
use Rattle.mig_answer.specs.declared.verdict.Verdict.TheVariants.{Done}
use Rattle.mig_answer.specs.declared.status.Status.{Status}
use Rattle.mig_answer.specs.declared.status.Status.TheVariants.{Whole}
use Rattle.mig_answer.specs.Status.{main_status, stream_end, is_clean}
use Rattle.mig_answer.specs.Texts.{Text, Texts}
use Rattle.mig_answer.specs.Rounds.{record_pages_at, pages_at}
use Rattle.mig_answer.specs.MultiLoad.{Standing, main_at, channels_at}
use Rattle.mig_in_place.specs.Answer.{rounds_onto, IsInPlaceAnswer}
use Rattle.mig_in_place.specs.Named.{SomeHasPacket}
use Rattle.mig_packet.specs.PacketHead.{as_zeros}
use Rattle.mig_in_place.specs.Round.{Keeps}
use Rattle.mig_in_place.specs.Sources.{KeptChannel, TellsMainStatus, HoldsChannel, HoldsRound, heads_given, head_places, named_places}
use Rattle.mig_in_place.specs.Session.{InPlaceLoad, IsRunning, Loading, Loads, HasAllRounds, MoreMayCome, records_come}
use Rattle.mig_answer.proofs.Statuses.{clean_at, status_end, stream_closed}
use Rattle.mig_answer.proofs.Never.{done_is_clean}
use Rattle.mig_in_place.proofs.Done.{own_or_other}
use Rattle.mig_in_place.proofs.NamedSoFar.{channel_has}
use Rattle.mig_in_place.proofs.Exact.{exact_law}

none_written : (pages : List Page) (places : List Place) → places ≡ [] → All (λ page. IsTrue (has_place places page.place)) pages → pages ≡ []
none_written [] places none all = refl
none_written (x ∷ pages) places none all = absurd (
    let named : has_place places x.place ≡ true = All-head (λ (page : Page). IsTrue (has_place places page.place)) x pages all in
    let unnamed : has_place places x.place ≡ false = ap (λ (l : List Place). has_place l x.place) none in
    let clash : true ≡ false = sym named ∙ unnamed in cc)

-- a round without a page changes nothing
rounds_stay : (first : Image) (rounds : List (List Page)) → with_round (with_round first (all_pages rounds)) [] ≡ with_round first (all_pages rounds)
rounds_stay first rounds = put_after first (all_pages rounds) [] ∙ ap (λ (l : List Page). with_round first l) (append-nil (all_pages rounds))

-- ---- while it runs

module _ (f : Loading) (memory : Image) (s : InPlaceLoad) (loads : Loads f memory s) (none : length s.round.arrivals.numbers
    ≡ 0) (open_ : IsFalse s.sources.main.is_whole) where
  abbrev given : LoadSettings
  given = for_table f.first.table f.given

  abbrev r : IsRunning given f.uuid f.first f.texts memory s
  r = loads.is_running

  abbrev k : ℕ
  k = s.rounds

  abbrev table : RamTable
  table = f.first.table

  -- the round names no place
  names_none : (holds : HoldsRound table (rounds_onto f.first k r.readings) k
      (record { records = records_come table.page_size k r.readings s.sources.main; channels = r.gave }) s.round memory)
      → named_places table k (record { records = records_come table.page_size k r.readings s.sources.main; channels = r.gave }) ≡ []
  names_none holds =
      let came : List Fields = packets_in holds.arrivals in
      let H : List (List ℕ) = flat_map (heads_given k) r.gave in
      let records : records_come table.page_size k r.readings s.sources.main ≡ [] =
      ap (λ (b : Bool). if b then record_pages_at table.page_size k r.readings else []) open_ in
      let counted : length came ≡ length s.round.arrivals.numbers =
      sym (length-map came (λ (q : Fields). q.number))
      ∙ bag_length (numbers came) s.round.arrivals.numbers (bag_permutation (numbers came) s.round.arrivals.numbers holds.keeps.has_come.has_numbers) in
      let heads : length H ≡ 0 =
      sym (length-map H as_zeros) ∙ sym (bag_length came (map as_zeros H) (bag_permutation came (map as_zeros H) holds.has_packets)) ∙ counted ∙ none in
      ap (λ (l : List Page). places_of l ++ flat_map (head_places table) H) records
      ∙ ap (λ (l : List (List ℕ)). flat_map (head_places table) l) (nil_from_length H heads)

  pub has_rounds_alone : memory ≡ rounds_onto f.first k r.readings
  has_rounds_alone = elim r.is_own [
    | inl unknown ↦
        let same = r.unknown unknown in
        same.0 ∙ sym (onto-nil f.first loads.is_image) ∙ ap (λ (n : ℕ). rounds_onto f.first n r.readings) (sym same.1)
    | inr own ↦
        let holds = r.own own in
        let nothing : holds.written ≡ [] =
        none_written holds.written (named_places table k
        (record { records = records_come table.page_size k r.readings s.sources.main; channels = r.gave })) (names_none holds) holds.are_named in
        holds.has_memory ∙ ap (λ (l : List Page). with_round (rounds_onto f.first k r.readings) l) nothing
        ∙ rounds_stay f.first (map (λ i. pages_at table i r.readings) (range_with_len 0 k))
  ]

-- with a clean main stream, and no packet of a further round, all rounds are in
pub all_in : (f : Loading) (memory : Image) (s : InPlaceLoad) (status : Status) (loads : Loads f memory s)
    → TellsMainStatus s.sources.main status → (IsTrue s.sources.main.is_whole → status ≡ Whole)
    → is_clean status ≡ true → length s.round.arrivals.numbers ≡ 0 → HasAllRounds (for_table f.first.table f.given) f.uuid f.first f.texts memory s.rounds
all_in f memory s status loads tells whole clean none =
    let given : LoadSettings = for_table f.first.table f.given in
    let r : IsRunning given f.uuid f.first f.texts memory s = loads.is_running in
    let k : ℕ = s.rounds in
    let size : IsPageSize given.page_size = loads.is_table.has_page_size in
    let here : status ≡ main_status k r.readings.main = tells given k f.texts.main r.readings.main size r.main r.are_readings.has_main in
    let at = clean_at k (length r.readings.main.rounds) (stream_end r.readings.main.state) (sym (ap is_clean here) ∙ clean) in
    let open_ : IsFalse s.sources.main.is_whole = (elim (cases_Bool s.sources.main.is_whole) [
      | inr e ↦ e
      | inl t ↦ absurd (let not_clean : is_clean status ≡ false = ap is_clean (whole t) in let clash : true ≡ false = sym clean ∙ not_clean in cc)
    ]) in
    record {
      readings = r.readings;
      are_readings = r.are_readings;
      is_closed = stream_closed false r.readings.main.state at.1;
      has_all = sym at.0;
      have_passed = r.have_passed;
      has_memory = has_rounds_alone f memory s loads none open_;
    }

-- ---- while more may come

-- some channel gave a head
some_has : (given : channel.Settings) (table : RamTable) (k : ℕ) (texts : List Text) (gave : List GivenSoFar) (channels : List
    KeptChannel) → length gave ≡ length texts
    → AllZip (λ c kept. HoldsChannel given table k c.0 c.1 kept) (zip texts gave) channels → flat_map (heads_given k) gave ≢ [] → SomeHasPacket given k texts
some_has given table k texts [] channels same holds some = absurd (some refl)
some_has given table k [] (g ∷ gave) channels same holds some = absurd (omega (arith, same))
some_has given table k (text ∷ texts) (g ∷ gave) [] same holds some = absurd holds
some_has given table k (text ∷ texts) (g ∷ gave) (c ∷ channels) same holds some =
    by_heads (heads_given k g) refl (λ none. some_has given table k texts gave channels (omega (arith, same)) holds.1 none)
  where
    by_heads : (heads : List (List ℕ)) → heads_given k g ≡ heads
        → (flat_map (heads_given k) gave ≢ [] → SomeHasPacket given k texts) → SomeHasPacket given k (text ∷ texts)
    by_heads [] none later =
        let rest = later (λ e. some (ap (λ (l : List (List ℕ)). l ++ flat_map (heads_given k) gave) none ∙ e)) in
        (rest.0, contains_later text texts rest.0 rest.1, rest.2)
    by_heads (head ∷ heads) is later = (
      text,
      contains_here text texts,
      channel_has given table k text g c holds.0 (λ e. let clash : head ∷ heads ≡ [] = sym is ∙ e in cc),
    )

-- the round has packets, so a channel has one
round_has : (f : Loading) (memory : Image) (s : InPlaceLoad) → Loads f memory s → length s.round.arrivals.numbers ≢ 0
    → SomeHasPacket (channel_of (for_table f.first.table f.given) f.uuid (length f.texts.channels)) s.rounds f.texts.channels
round_has f memory s loads some =
    let r : IsRunning (for_table f.first.table f.given) f.uuid f.first f.texts memory s = loads.is_running in
    elim r.is_own [
      | inl unknown ↦
          let keeps : Keeps f.first.table [] s.round = (r.unknown unknown).2 in
          absurd (some (sym (bag_length [] s.round.arrivals.numbers (bag_permutation [] s.round.arrivals.numbers keeps.has_come.has_numbers))))
      | inr own ↦
          let holds = r.own own in
          let came : List Fields = packets_in holds.arrivals in
          let heads : List (List ℕ) = flat_map (heads_given s.rounds) r.gave in
          let counted : length s.round.arrivals.numbers ≡ length heads =
          sym (bag_length (numbers came) s.round.arrivals.numbers (bag_permutation (numbers came) s.round.arrivals.numbers holds.keeps.has_come.has_numbers))
          ∙ length-map came (λ (q : Fields). q.number)
          ∙ bag_length came (map as_zeros heads) (bag_permutation came (map as_zeros heads) holds.has_packets) ∙ length-map heads as_zeros in
          some_has _ f.first.table s.rounds f.texts.channels r.gave s.sources.channels r.as_many r.channels
          (λ none. some (counted ∙ ap (λ (l : List (List ℕ)). length l) none))
    ]

-- if a packet of the current round has arrived, more rounds may come
pub packets_come : (f : Loading) (memory : Image) (s : InPlaceLoad) → Loads f memory s → length s.round.arrivals.numbers ≢ 0
    → MoreMayCome (for_table f.first.table f.given) f.uuid f.texts s.rounds
packets_come f memory s loads some = record {
  readings = loads.is_running.readings;
  are_readings = loads.is_running.are_readings;
  has_more = inr (inr (round_has f memory s loads some));
}

not_closed : (k : ℕ) (r : StreamReading) → is_clean (main_status k r) ≡ false → (r.state ≢ stream_state.Closed) ⊎ (length r.rounds ≢ k)
not_closed k r unclean = elim (cases_order k (length r.rounds)) [
  | inl e ↦ inl (λ closed.
      let clean : is_clean (main_status k r) ≡ true = ap is_clean (status_end k (length r.rounds) (stream_end r.state) e)
      ∙ ap (λ (t : StreamState). is_clean (stream_end t)) closed in
      let clash : false ≡ true = sym unclean ∙ clean in cc)
  | inr ne ↦ inr (λ e. elim ne [ inl lt ↦ omega (arith, lt, e) | inr gt ↦ omega (arith, gt, e) ])
]

-- while the main stream isn't clean, more rounds may come
pub main_goes_on : (f : Loading) (memory : Image) (s : InPlaceLoad) (status : Status) → Loads f memory s
    → TellsMainStatus s.sources.main status → is_clean status ≡ false
    → MoreMayCome (for_table f.first.table f.given) f.uuid f.texts s.rounds
main_goes_on f memory s status loads tells unclean =
    let given : LoadSettings = for_table f.first.table f.given in
    let r : IsRunning given f.uuid f.first f.texts memory s = loads.is_running in
    let here : status ≡ main_status s.rounds r.readings.main =
    tells given s.rounds f.texts.main r.readings.main loads.is_table.has_page_size r.main r.are_readings.has_main in
    record {
      readings = r.readings;
      are_readings = r.are_readings;
      has_more = elim (not_closed s.rounds r.readings.main (sym (ap is_clean here) ∙ unclean)) [ inl open_ ↦ inl open_ | inr more ↦ inr (inl more) ];
    }

-- ---- once it is done

-- if the verdict is Done, all rounds are in
pub done_has_all : (given : LoadSettings) (uuid : List ℕ) (first : Image) (texts : Texts) (memory : Image) (k : ℕ)
    → IsTable first.table → IsImage first → IsImage memory
    → IsInPlaceAnswer given uuid first texts memory k Done → HasAllRounds (for_table first.table given) uuid first texts memory k
done_has_all given uuid first texts memory k is_table is_image is_memory here = elim (own_or_other first here.readings.main) [
  | inr other ↦ absurd (let bad = (here.other other).has_verdict in cc)
  | inl own ↦
      let mine = here.own own in
      let all = and_parts (is_clean (main_at k here.readings).status) (list_all (λ (s : Standing). is_clean s.status) (channels_at k here.readings))
      (done_is_clean k here.readings (sym mine.has_verdict)) in
      let main = clean_at k (length here.readings.main.rounds) (stream_end here.readings.main.state) all.0 in
      record {
        readings = here.readings;
        are_readings = here.are_readings;
        is_closed = stream_closed false here.readings.main.state main.1;
        has_all = sym main.0;
        have_passed = mine.has_rounds.before;
        has_memory = exact_law given uuid first texts memory k is_table is_image is_memory here;
      }
]
