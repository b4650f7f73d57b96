-- A load whose main stream goes on.
use Rattle.std.proofs.Common.{ℕ, ◌≡◌, ◌≢◌, Bool, true, false, List, [], ◌∷◌, ◌++◌, length, map, get_or, Option, Some, None, refl, sym, ap, subst, ◌∙◌, inl, inr}
use Rattle.std.proofs.Common.{arith}
use Rattle.std.specs.Prelude.{if◌then◌else◌, ◌⊎◌, IsTrue, IsFalse, IfSome, zip, IsPermutation}
use Rattle.std.specs.List.{AllZip, All, flat_map}
use Rattle.std.proofs.lemmas.List.Elements.{All-head, All-tail, All-nil}
use Rattle.std.proofs.lemmas.List.Sorted.{IsPermutation-refl}
use Rattle.mig_mem.specs.PageSize.{IsPageSize}
use Rattle.mig_mem.specs.RamTable.{RamTable}
use Rattle.mig_mem.specs.Place.{has_place}
use Rattle.mig_mem.specs.Image.{Page, Image}
use Rattle.mig_mem.specs.Round.{with_round, with_rounds}
use Rattle.mig_mem.proofs.Rounds.{onto-nil}
use Rattle.mig_stream.specs.declared.item.StreamState.{StreamState}
use Rattle.mig_stream.specs.declared.item.StreamState.TheVariants as stream_state
use Rattle.mig_stream.specs.PageRecord.{PageRecord, page_of}
use Rattle.mig_stream.specs.Reading.{StreamReading, IsReading}
use Rattle.mig_stream.specs.Reader.{HasTable}
use Rattle.mig_stream.proofs.Exists.{one_reading_law}
use Rattle.mig_packet.specs.Reading.{Settings}
use Rattle.mig_packet.specs.Paging.{GivenSoFar, OpenPacket}
use Rattle.mig_assemble.proofs.Putting.{put_none}
use Rattle.mig_single_load.specs.InPlace.{IsOfOwnTable}
use Rattle.mig_load_types.specs.Settings.{main_of, for_table, channel_of}
use Rattle.mig_load_types.specs.declared.fault.Origin.TheVariants as origin
use Rattle.mig_load_types.specs.declared.fault.Fault.TheVariants as fault
use Rattle.mig_load_types.specs.declared.settings.LoadSettings.{LoadSettings}
use Rattle.mig_answer.specs.Texts.{Text, Texts, Readings, AreReadings, with_piece}
use Rattle.mig_answer.specs.Growing.{GoesOn}
use Rattle.mig_answer.specs.Rounds.{record_pages_at}
use Rattle.mig_answer.specs.MultiLoad.{failed}
use Rattle.mig_answer.proofs.OneAnswer.{main_reading}
use Rattle.mig_answer.proofs.Growing.{ReadingsStay, readings_stay, pass_still}
use Rattle.mig_answer.proofs.GrowingMain.{main_table_first}
use Rattle.mig_in_place.specs.Answer.{rounds_onto}
use Rattle.mig_packet.specs.PacketHead.{as_zeros, offsets_in}
use Rattle.mig_in_place.specs.Round.{KeptRound, Keeps}
use Rattle.mig_in_place.specs.Sources.{KeptMain, KeptChannel, HoldsMain, HoldsChannel, HoldsRound, HasHelloAlone, WritesPages, HasTakenRecords, HasNoRound}
use Rattle.mig_in_place.specs.Sources.{StandsAt, heads_given, heads_begun, packets_given, pages_given, pages_begun, named_places}
use Rattle.mig_in_place.specs.Session.{InPlaceLoad, IsRunning, Loading, Loads, Stands, records_come}
use Rattle.mig_in_place.proofs.Advancing.{pages_of, main_taken}
use Rattle.mig_in_place.proofs.Mains.{same_found, table_is}
use Rattle.mig_in_place.proofs.Places.{running_taken, text_taken}
use Rattle.mig_in_place.proofs.MissingPages.{named_still}
use Rattle.mig_in_place.proofs.Waiting.{main_goes, same_rounds_onto}

-- channels of which only hellos have come gave nothing of a round
pub alone_none : (table : RamTable) (k : ℕ) (gave : List GivenSoFar) → All HasHelloAlone gave
    → (flat_map (heads_given k) gave ≡ []) × (flat_map (pages_given table k) gave ≡ [])
alone_none table k [] all = (refl, refl)
alone_none table k (g ∷ gave) all =
    let here = All-head HasHelloAlone g gave all in
    let rest = alone_none table k gave (All-tail HasHelloAlone g gave all) in
    let none : packets_given k g ≡ [] = ap (λ (l : List (List (List ℕ))). get_or l k g.read.packets) here.no_rounds ∙ here.no_packets in
    let heads : heads_given k g ≡ [] = ap (λ (o : Option OpenPacket). packets_given k g ++ heads_begun o) here.none_begun
    ∙ ap (λ (l : List (List ℕ)). l ++ []) none in
    let pages : pages_given table k g ≡ [] =
    ap (λ (o : Option OpenPacket). flat_map (pages_of table) (packets_given k g) ++ pages_begun table o) here.none_begun
    ∙ ap (λ (l : List (List ℕ)). flat_map (pages_of table) l ++ []) none in (
      ap (λ (l : List (List ℕ)). l ++ flat_map (heads_given k) gave) heads ∙ rest.0,
      ap (λ (l : List Page). l ++ flat_map (pages_given table k) gave) pages ∙ rest.1,
    )

alone_writes : (given : Settings) (table : RamTable) (k : ℕ) (texts : List Text) (gave : List GivenSoFar) (channels : List
    KeptChannel) → length gave ≡ length texts
    → AllZip (λ c kept. HoldsChannel given table k c.0 c.1 kept) (zip texts gave) channels → All HasHelloAlone gave → AllZip WritesPages gave channels
alone_writes given table k [] [] [] same holds all = tt
alone_writes given table k [] [] (c ∷ channels) same holds all = absurd holds
alone_writes given table k [] (g ∷ gave) channels same holds all = absurd (omega (arith, same))
alone_writes given table k (text ∷ texts) [] channels same holds all = absurd (omega (arith, same))
alone_writes given table k (text ∷ texts) (g ∷ gave) [] same holds all = absurd holds
alone_writes given table k (text ∷ texts) (g ∷ gave) (c ∷ channels) same holds all = (
  subst (λ (o : Option OpenPacket). IfSome o (λ packet. length (offsets_in packet.head) ≢ 0 → c.block ≢ None))
      (sym (All-head HasHelloAlone g gave all).none_begun) tt,
  alone_writes given table k texts gave channels (omega (arith, same)) holds.1 (All-tail HasHelloAlone g gave all),
)

cases_state : (s : StreamState) → (s ≡ stream_state.Reading) ⊎ (s ≢ stream_state.Reading)
cases_state stream_state.Reading = inl refl
cases_state stream_state.Closed = inr (λ e. absurd cc)
cases_state (stream_state.Bad f) = inr (λ e. absurd cc)

-- a piece more of a stream that isn't ended
pub piece_goes : (f : Loading) (memory : Image) (s : InPlaceLoad) (loads : Loads f memory s) (piece : List ℕ)
    → IsFalse s.sources.main.reader.ended → GoesOn f.texts.main (with_piece piece f.texts.main)
piece_goes f memory s loads piece open_ = record {
  more = piece;
  has_bytes = refl;
  stays_ended = λ over. absurd (let ended = loads.is_running.main.stands.has_ended in let clash : false ≡ true = sym open_ ∙ ended ∙ over in cc);
}

module _ (f : Loading) (memory : Image) (s : InPlaceLoad) (loads : Loads f memory s) (text : Text) (goes : GoesOn f.texts.main text) where
  abbrev given : LoadSettings
  given = for_table f.first.table f.given

  abbrev r : IsRunning given f.uuid f.first f.texts memory s
  r = loads.is_running

  abbrev size : IsPageSize given.page_size
  size = loads.is_table.has_page_size

  abbrev k : ℕ
  k = s.rounds

  abbrev table : RamTable
  table = f.first.table

  abbrev texts : Texts
  texts = record f.texts { main = text }

  abbrev now : Readings
  now = record { main = (main_reading given text size).0; channels = r.readings.channels }

  pub are_now : AreReadings given f.uuid texts now
  are_now = record { has_main = (main_reading given text size).1; has_channels = r.are_readings.has_channels }

  pub stay : ReadingsStay r.readings now
  stay = readings_stay given f.uuid f.texts texts r.readings now size (main_goes f.texts (λ old. text) goes) r.are_readings are_now

  same_onto : rounds_onto f.first k now ≡ rounds_onto f.first k r.readings
  same_onto = ap (with_rounds f.first) (same_rounds_onto f.first k r.readings now stay r.have_passed)

  pub none_still : now.main.table ≡ None → r.readings.main.table ≡ None
  none_still none = elim r.is_own [
    | inl before ↦ before
    | inr own ↦ absurd (let there : now.main.table ≡ Some table = stay.main.same_table table own in let clash : None ≡ Some table = sym none ∙ there in cc)
  ]

  -- the list came with these bytes: it was awaited
  was_reading : r.readings.main.table ≡ None → now.main.table ≡ Some table → r.readings.main.state ≡ stream_state.Reading
  was_reading none is = elim (cases_state r.readings.main.state) [
    | inl e ↦ e
    | inr over ↦ absurd (let same : now.main.table ≡ r.readings.main.table = ap (λ (x : StreamReading). x.table) (stay.main.same_once_over over) in
        let clash : None ≡ Some table = sym none ∙ sym same ∙ is in cc)
  ]

  pub awaits_still : now.main.table ≡ None → now.main.state ≡ stream_state.Reading → All HasHelloAlone r.gave
  awaits_still none reads = r.awaited (none_still none) (elim (cases_state r.readings.main.state) [
    | inl e ↦ e
    | inr over ↦ absurd (over (sym (ap (λ (x : StreamReading). x.state) (stay.main.same_once_over over)) ∙ reads))
  ])

  -- what is kept of the round, but for the records that come now
  pub known : IsFalse s.sources.main.is_whole → now.main.table ≡ Some table
      → HoldsRound table (rounds_onto f.first k now) k (record { records = []; channels = r.gave }) s.round memory
  known open_ is = elim r.is_own [
    | inr own ↦
        let come : records_come table.page_size k r.readings s.sources.main ≡ [] =
        ap (λ (b : Bool). if b then record_pages_at table.page_size k r.readings else []) open_ in
        subst (λ (m : Image). HoldsRound table m k (record { records = []; channels = r.gave }) s.round memory) (sym same_onto)
        (subst (λ (l : List Page). HoldsRound table (rounds_onto f.first k r.readings) k
        (record { records = l; channels = r.gave }) s.round memory) come (r.own own))
    | inl none ↦
        let alone = alone_none table k r.gave (r.awaited none (was_reading none is)) in
        let nothing = r.unknown none in
        let first : rounds_onto f.first k now ≡ f.first = ap (λ (n : ℕ). rounds_onto f.first n now) nothing.1 ∙ onto-nil f.first loads.is_image in
        record {
          arrivals = [];
          keeps = nothing.2;
          has_records = refl;
          has_packets = subst (λ (l : List (List ℕ)). IsPermutation [] (map as_zeros l)) (sym alone.0) (IsPermutation-refl []);
          written = [];
          has_memory = nothing.0 ∙ put_none f.first loads.is_image ∙ ap (λ (m : Image). with_round m []) (sym first);
          are_named = All-nil (λ page. IsTrue (has_place (named_places table k (record { records = []; channels = r.gave })) page.place));
          are_all = λ _. subst (λ (l : List Page). IsPermutation [] l) (sym alone.1) (IsPermutation-refl []);
        }
  ]

  pub writes_now : now.main.table ≡ Some table → IsFalse s.round.has_misplaced → AllZip WritesPages r.gave s.sources.channels
  writes_now is right = elim r.is_own [
    | inr own ↦ r.writes own right
    | inl none ↦ alone_writes (channel_of given f.uuid (length f.texts.channels)) table k f.texts.channels r.gave
        s.sources.channels r.as_many r.channels (r.awaited none (was_reading none is))
  ]

  -- the load with more bytes of the main stream
  pub main_goes_on : (m : KeptMain) (round : KeptRound) (changed : Image) → IsOfOwnTable f.first now.main → HoldsMain (main_of given) k text m
      → (now.main.table ≡ Some table → HoldsRound table (rounds_onto f.first k now) k
      (record { records = records_come table.page_size k now m; channels = r.gave }) round changed)
      → round.has_misplaced ≡ s.round.has_misplaced → (now.main.table ≡ None → (changed ≡ memory) × (round ≡ s.round))
      → Loads (record f { texts = texts }) changed (record s { sources = record s.sources { main = m }; round = round })
  main_goes_on m round changed own holds come misplaced same = record {
    is_table = loads.is_table;
    is_image = loads.is_image;
    same_table = loads.same_table;
    is_running = record {
      readings = now;
      are_readings = are_now;
      is_own = own;
      have_passed = pass_still r.readings now k stay r.have_passed;
      main = holds;
      gave = r.gave;
      as_many = r.as_many;
      has_channel = r.has_channel;
      channels = r.channels;
      has_base = r.has_base;
      has_named = named_still f.first k r.readings now s.named stay r.have_passed r.has_named;
      own = come;
      writes = λ is right. writes_now is (sym misplaced ∙ right);
      unknown = λ none. (let before = r.unknown (none_still none) in (
        (same none).0 ∙ before.0,
        before.1,
        subst (λ (x : KeptRound). Keeps table [] x) (sym (same none).1) before.2,
      ));
      is_unwritten = λ none. r.is_unwritten (none_still none);
      awaited = λ none reads. awaits_still none reads;
    };
  }

  -- bytes of the stream came, and its records were taken
  pub main_read : (m next : KeptMain) (round : KeptRound) (changed : Image) → IsFalse m.is_whole → IsFalse s.sources.main.is_whole
      → StandsAt (main_of given) k text m
      → HasTable (main_of given) text.bytes None ⊎ HasTable (main_of given) text.bytes (Some table)
      → HasTakenRecords (main_of given) k text m s.round memory next round changed
      → Loads (record f { texts = texts }) changed (record s { sources = record s.sources { main = next }; round = round })
  main_read m next round changed open_ was_open stands found taken = elim found [
    | inr has ↦
        let is : now.main.table ≡ Some table = table_is given text (Some table) now.main size has are_now.has_main in
        let come = main_taken given table (rounds_onto f.first k now) k text now r.gave m next s.round round memory changed size
        refl are_now.has_main stands open_ taken (known was_open is) in
        main_goes_on next round changed (inr is) come.0 (λ _. come.1) come.2 (λ none. absurd (let clash : None ≡ Some table = sym none ∙ is in cc))
    | inl has ↦
        let none : now.main.table ≡ None = table_is given text None now.main size has are_now.has_main in
        let empty : now.main.rounds ≡ [] = main_table_first given text now.main size are_now.has_main none in
        let nothing = none_to_take empty in
        main_goes_on next round changed (inl none)
        (subst (λ (x : KeptMain). HoldsMain (main_of given) k text x) (sym nothing.0) (record { stands = stands; has_none = nothing.3 }))
        (λ is. absurd (let clash : None ≡ Some table = sym none ∙ is in cc)) (ap (λ (x : KeptRound). x.has_misplaced) nothing.1) (λ _. (nothing.2, nothing.1))
  ]
    where
      none_to_take : now.main.rounds ≡ [] → (next ≡ m) × (round ≡ s.round) × (changed ≡ memory) × (IsFalse m.is_whole → HasNoRound (main_of given) k text)
      none_to_take empty = elim taken [
        | inl nothing ↦ nothing
        | inr t ↦ absurd (
            let rounds : now.main.rounds ≡ t.has_records.0.rounds =
            ap (λ (x : StreamReading). x.rounds) (same_found given text t.has_records.0 now.main size t.has_records.1 are_now.has_main) in
            let count : length t.has_records.0.rounds ≡ 0 = ap (λ (l : List (List PageRecord)). length l) (sym rounds ∙ empty) in
            omega (arith, count, t.has_records.2))
      ]

  -- the stream ended
  pub main_ended : (m : KeptMain) → m.is_whole ≡ s.sources.main.is_whole → text.bytes ≡ f.texts.main.bytes
      → HoldsMain (main_of given) k text m → Loads (record f { texts = texts }) memory (record s { sources = record s.sources { main = m } })
  main_ended m same bytes holds =
      let table_same : now.main.table ≡ r.readings.main.table =
      ap (λ (x : StreamReading). x.table) are_now.has_main.has_end
      ∙ ap (λ (x : StreamReading). x.table) (found_same)
      ∙ sym (ap (λ (x : StreamReading). x.table) r.are_readings.has_main.has_end) in
      main_goes_on m s.round memory (subst (λ (o : Option RamTable). (o ≡ None) ⊎ (o ≡ Some table)) (sym table_same) r.is_own) holds
      (λ is. records_now (sym table_same ∙ is)) refl (λ none. (refl, refl))
    where
      found_same : are_now.has_main.found ≡ r.are_readings.has_main.found
      found_same =
          let one = one_reading_law (main_of given) f.texts.main.bytes size in
          let here : IsReading (main_of given) f.texts.main.bytes are_now.has_main.found =
          subst (λ (l : List ℕ). IsReading (main_of given) l are_now.has_main.found) bytes are_now.has_main.is_reading in
          one.2 are_now.has_main.found here ∙ sym (one.2 r.are_readings.has_main.found r.are_readings.has_main.is_reading)

      rounds_same : now.main.rounds ≡ r.readings.main.rounds
      rounds_same =
          ap (λ (x : StreamReading). x.rounds) are_now.has_main.has_end ∙ ap (λ (x : StreamReading). x.rounds) found_same
          ∙ sym (ap (λ (x : StreamReading). x.rounds) r.are_readings.has_main.has_end)

      records_now : r.readings.main.table ≡ Some table
          → HoldsRound table (rounds_onto f.first k now) k (record { records = records_come table.page_size k now m; channels = r.gave }) s.round memory
      records_now own =
          let come : records_come table.page_size k now m ≡ records_come table.page_size k r.readings s.sources.main =
          ap (λ (b : Bool). if b then record_pages_at table.page_size k now else []) same
          ∙ ap (λ (l : List (List PageRecord)). if s.sources.main.is_whole then map (page_of table.page_size) (get_or l k []) else []) rounds_same in
          subst (λ (i : Image). HoldsRound table i k
          (record { records = records_come table.page_size k now m; channels = r.gave }) s.round memory) (sym same_onto)
          (subst (λ (l : List Page). HoldsRound table (rounds_onto f.first k r.readings) k
          (record { records = l; channels = r.gave }) s.round memory) (sym come) (r.own own))

  -- the list names another table
  pub of_other : (m : KeptMain) (other : RamTable) → StandsAt (main_of given) k text m → HasTable (main_of given) text.bytes (Some other) → other ≢ s.table
      → Stands (record f { texts = texts }) memory (record s { sources = record s.sources { main = m }; verdict = failed 0 origin.Main fault.OtherTable })
  of_other m other stands has differ =
      let is : now.main.table ≡ Some other = table_is given text (Some other) now.main size has are_now.has_main in
      let not_own : now.main.table ≡ Some table
      → ⊥ = λ own. differ (let both : Some other ≡ Some table = sym is ∙ own in let e : other ≡ table = cc in e ∙ loads.same_table) in
      let none : r.readings.main.table ≡ None = (elim r.is_own [
        | inl nothing ↦ nothing
        | inr own ↦ absurd (not_own (stay.main.same_table table own))
      ]) in
      let before = r.unknown none in
      record {
        is_table = loads.is_table;
        is_image = loads.is_image;
        same_table = loads.same_table;
        is_answer = record {
          readings = now;
          are_readings = are_now;
          own = λ own. absurd (elim own [
            | inl nothing ↦ let clash : None ≡ Some other = sym nothing ∙ is in cc
            | inr mine ↦ not_own mine
          ]);
          unknown = λ nothing. absurd (let clash : None ≡ Some other = sym nothing ∙ is in cc);
          other = λ _. record { has_none = before.1; has_verdict = refl; has_memory = before.0 };
        };
        have_taken = text_taken given f.uuid f.texts s.sources k text m stands (running_taken given f.uuid f.first f.texts memory s r);
        has_named = record {
          readings = now;
          are_readings = are_now;
          has_places = λ _. named_still f.first k r.readings now s.named stay r.have_passed r.has_named;
        };
        runs = λ running. absurd cc;
      }
