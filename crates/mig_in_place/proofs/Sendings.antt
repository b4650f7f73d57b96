-- What was sent on several channels is loaded in place: the memory has the rounds sent on top of
-- what it held.
use Rattle.std.proofs.Common.{ℕ, zero, suc, ◌≡◌, ◌+◌, ◌<◌, ◌≤◌, Bool, true, false, List, [], ◌∷◌, ◌++◌, length, map, take, get_or, refl, sym, ap, subst, ◌∙◌}
use Rattle.std.proofs.Common.{inr, arith}
use Rattle.std.specs.List.{range_with_len}
use Rattle.std.proofs.lemmas.List.{length-map, get_or-map, take_more, take_all}
use Rattle.std.proofs.lemmas.List.FromFn.{map-range_with_len_more}
use Rattle.mig_mem.specs.PageSize.{IsPageSize}
use Rattle.mig_mem.specs.RamTable.{RamTable, IsTable}
use Rattle.mig_mem.specs.Image.{Page, Image, IsImage}
use Rattle.mig_mem.specs.Round.{round_of, with_round, with_rounds}
use Rattle.mig_mem.specs.Tracking.{Snapshot}
use Rattle.mig_mem.proofs.Rounds.{rounds_onto as go_onto}
use Rattle.mig_stream.specs.declared.item.Frame.{Frame}
use Rattle.mig_stream.specs.declared.item.Frame.TheVariants.{Ram, Machine}
use Rattle.mig_stream.specs.declared.item.StreamState.{StreamState}
use Rattle.mig_stream.specs.declared.item.StreamState.TheVariants.{Closed}
use Rattle.mig_stream.specs.Reading.{StreamReading, state_at}
use Rattle.mig_stream.proofs.Exists.{one_reading_law}
use Rattle.mig_stream.proofs.WrittenText.{written_main}
use Rattle.mig_stream.proofs.WrittenMachine.{machine_mains}
use Rattle.mig_stream.proofs.SpelledText.{spelled_law}
use Rattle.mig_send.specs.DealtRounds.{DealtRound}
use Rattle.mig_send.specs.ReadBack.{SendingsAreReadBack}
use Rattle.mig_send.proofs.ReadBack.{sendings_are_read_back, machine_sendings_are_read_back}
use Rattle.mig_load_types.specs.Settings.{ram_settings, for_table, main_of}
use Rattle.mig_single_load.specs.InPlace.{IsOfOwnTable}
use Rattle.mig_load_types.specs.declared.settings.LoadSettings.{LoadSettings}
use Rattle.mig_load_types.specs.declared.settings.RoundEnd.TheVariants.{Flush as by_flush}
use Rattle.mig_answer.specs.declared.verdict.Verdict.{Verdict}
use Rattle.mig_answer.specs.declared.verdict.Verdict.TheVariants.{Done}
use Rattle.mig_answer.specs.Status.{stream_end, is_clean}
use Rattle.mig_answer.specs.Texts.{Texts, Readings, AreReadings, ended_texts}
use Rattle.mig_answer.specs.Rounds.{pages_at, memory_at}
use Rattle.mig_answer.specs.MultiLoad.{Answer, IsAnswer}
use Rattle.mig_answer.specs.Sent.{LetsChannelsThrough, sent_rounds, sent_answer}
use Rattle.mig_answer.proofs.SentRounds.{AreOfSending, brings, round_at, no_round}
use Rattle.mig_answer.proofs.Sent.{AreToldOf, IsReadAsSent}
use Rattle.mig_answer.proofs.SentWithin.{told_within, within_law as sent_within, none_lets, before_as_sent}
use Rattle.mig_answer.proofs.Headline.{of_told, as_sent, machine_as_sent}
use Rattle.mig_answer.proofs.OneAnswer.{same_readings}
use Rattle.mig_in_place.specs.Answer.{rounds_onto, IsOwnAnswer, IsInPlaceAnswer}
use Rattle.mig_in_place.specs.Law.{SentIsLoadedInPlace, SentIsLoadedWithin, MachineSentIsLoadedInPlace, taken_texts}
use Rattle.mig_answer.proofs.Statuses.{stream_closed}
use Rattle.mig_in_place.proofs.Exact.{exact_law}

-- the first rounds of the readings leave what the first ones sent do, whatever the memory held
first_rounds : (table : RamTable) (limit channels : ℕ) (rounds : List DealtRound) (readings : Readings)
    → AreOfSending table limit channels rounds readings → (m : Image) (k : ℕ) → k ≤ length rounds
    → with_rounds m (map (λ i. pages_at table i readings) (range_with_len 0 k)) ≡ with_rounds m (take k (sent_rounds rounds))
first_rounds table limit channels rounds readings is m zero few = refl
first_rounds table limit channels rounds readings is m (suc k) few =
    let pages : ℕ → List Page = λ i. pages_at table i readings in
    let before : List (List Page) = map pages (range_with_len 0 k) in
    let sent : List (List Page) = sent_rounds rounds in
    let round : DealtRound = round_at table rounds k in
    let below : k < length rounds = omega (arith, few) in
    let own : List Page = round_of round.snapshot.image round.snapshot.dirty in
    let next : suc k ≡ k + 1 = omega arith in
    let mine : map pages (range_with_len 0 (k + 1)) ≡ before ++ pages k ∷ [] = map-range_with_len_more pages 0 k k (omega arith) in
    let snapshots : List Snapshot = map (λ (r : DealtRound). r.snapshot) rounds in
    let many : length snapshots ≡ length rounds = length-map rounds (λ (r : DealtRound). r.snapshot) in
    let long : length sent ≡ length snapshots = length-map snapshots (λ (s : Snapshot). round_of s.image s.dirty) in
    let at : get_or sent k [] ≡ own =
    get_or-map (λ (s : Snapshot). round_of s.image s.dirty) snapshots k (no_round table).snapshot [] (omega (arith, below, many))
    ∙ ap (λ (s : Snapshot). round_of s.image s.dirty) (get_or-map (λ (r : DealtRound). r.snapshot) rounds k (no_round table) (no_round table).snapshot below) in
    let theirs : take (k + 1) sent ≡ take k sent ++ own ∷ [] = take_more sent k [] (omega (arith, below, many, long))
    ∙ ap (λ (l : List Page). take k sent ++ l ∷ []) at in
    ap (λ n. with_rounds m (map pages (range_with_len 0 n))) next
    ∙ ap (λ (l : List (List Page)). with_rounds m l) mine ∙ go_onto.one_more m before (pages k)
    ∙ ap (λ (x : Image). with_round x (pages k)) (first_rounds table limit channels rounds readings is m k (omega (arith, few)))
    ∙ brings table limit channels rounds readings is k below (with_rounds m (take k sent))
    ∙ sym (go_onto.one_more m (take k sent) own) ∙ ap (λ (l : List (List Page)). with_rounds m l) (sym theirs)
    ∙ ap (λ n. with_rounds m (take n sent)) (sym next)

-- so all of them leave what was sent
all_rounds : (table : RamTable) (limit channels : ℕ) (rounds : List DealtRound) (readings : Readings)
    → AreOfSending table limit channels rounds readings → (m : Image)
    → with_rounds m (map (λ i. pages_at table i readings) (range_with_len 0 (length rounds))) ≡ with_rounds m (sent_rounds rounds)
all_rounds table limit channels rounds readings is m =
    let snapshots : List Snapshot = map (λ (r : DealtRound). r.snapshot) rounds in
    let many : length snapshots ≡ length rounds = length-map rounds (λ (r : DealtRound). r.snapshot) in
    let long : length (sent_rounds rounds) ≡ length snapshots = length-map snapshots (λ (s : Snapshot). round_of s.image s.dirty) in
    first_rounds table limit channels rounds readings is m (length rounds) (omega arith)
    ∙ ap (λ (l : List (List Page)). with_rounds m l) (take_all (length rounds) (sent_rounds rounds) (omega (arith, many, long)))

read_back : SendingsAreReadBack
read_back = sendings_are_read_back (λ limit table n is room. written_main table n limit is room) spelled_law

-- the end of a stream that its bytes close changes nothing
closed_ends : (ended : Bool) (s : StreamState) → s ≡ Closed → state_at ended s ≡ state_at true s
closed_ends true s e = refl
closed_ends false s e = ap (state_at false) e ∙ sym (ap (state_at true) e)

-- a main stream as it was sent is closed, so what is read of it is the same before its end
read_ended : (given : LoadSettings) (table : RamTable) (uuid : List ℕ) (rounds : List DealtRound) (main : List
    ℕ) (ended : Bool) (channels : List (List ℕ)) (over readings : Readings) → IsPageSize given.page_size
    → AreReadings given uuid (ended_texts main channels) over → AreToldOf table (length channels) rounds over
    → AreReadings given uuid (taken_texts main ended channels) readings
    → AreReadings given uuid (ended_texts main channels) readings
read_ended given table uuid rounds main ended channels over readings size are_over told are =
    let here = are.has_main in
    let there = are_over.has_main in
    let one = one_reading_law (main_of given) main size in
    let found : there.found ≡ here.found = one.2 there.found there.is_reading ∙ sym (one.2 here.found here.is_reading) in
    let at_end : state_at true there.found.state ≡ Closed = sym (ap (λ (r : StreamReading). r.state) there.has_end)
    ∙ ap (λ (r : StreamReading). r.state) told.has_main in
    let closed : here.found.state ≡ Closed =
    ap (λ (r : StreamReading). r.state) (sym found) ∙ stream_closed true there.found.state (ap (λ (s : StreamState). is_clean (stream_end s)) at_end) in
    record {
      has_main = record {
        found = here.found;
        is_reading = here.is_reading;
        has_end = here.has_end ∙ ap (λ (s : StreamState). record here.found { state = s }) (closed_ends ended here.found.state closed);
      };
      has_channels = are.has_channels;
    }

-- the channels are those of a sending, and the main stream is read in a frame as what it has of RAM
read_in_place : (frame : Frame) (given : LoadSettings) (uuid : List ℕ) (first : Image) (rounds : List DealtRound) (main : List
    ℕ) (ended : Bool) (channels : List (List ℕ)) (memory : Image) (k : ℕ) (verdict : Verdict)
    → IsTable first.table → IsImage first → IsImage memory → given.frame ≡ frame
    → LetsChannelsThrough given.waiting (length channels) rounds → given.round_end ≡ by_flush
    → IsReadAsSent frame first.table uuid given.limit rounds main channels → IsInPlaceAnswer given uuid first (taken_texts main ended channels) memory k verdict
    → (verdict ≡ Done) × (k ≡ length rounds) × (memory ≡ with_rounds first (sent_rounds rounds))
read_in_place frame given uuid first rounds main ended channels memory k verdict is_table is_image is_memory in_frame lets flushes sent here =
    let own_given : LoadSettings = for_table first.table given in
    let texts : Texts = ended_texts main channels in
    let readings : Readings = here.readings in
    let over = told_within frame own_given first.table uuid rounds main channels in_frame lets flushes refl sent in
    let are : AreReadings own_given uuid texts readings =
    read_ended own_given first.table uuid rounds main ended channels over.0 readings is_table.has_page_size over.2 over.3 here.are_readings in
    let alike : over.0 ≡ readings = same_readings own_given uuid texts over.0 readings is_table.has_page_size over.2 are in
    let told : AreToldOf first.table (length channels) rounds readings =
    subst (λ (r : Readings). AreToldOf first.table (length channels) rounds r) alike over.3 in
    let is : AreOfSending first.table sent.batch_limit (length channels) rounds readings =
    of_told frame first.table uuid given.limit rounds main channels readings sent told in
    let own : IsOfOwnTable first readings.main = inr (ap (λ (r : StreamReading). r.table) told.has_main) in
    let taken = here.own own in
    let mine : IsOwnAnswer own_given uuid first (taken_texts main ended channels) readings memory k verdict = taken in
    let answer : Answer = record { memory = memory_at k readings; rounds = k; verdict = verdict } in
    let answers : IsAnswer own_given uuid texts answer =
    record { readings = readings; are_readings = are; has_rounds = mine.has_rounds; has_memory = refl; has_verdict = mine.has_verdict } in
    let same : answer ≡ sent_answer first.table rounds =
    sent_within frame own_given first.table uuid rounds main channels answer in_frame lets flushes refl sent answers in
    let done : verdict ≡ Done = ap (λ (a : Answer). a.verdict) same in
    let all : k ≡ length rounds = ap (λ (a : Answer). a.rounds) same in
    let there : IsInPlaceAnswer given uuid first (taken_texts main ended channels) memory k Done =
    subst (λ (v : Verdict). IsInPlaceAnswer given uuid first (taken_texts main ended channels) memory k v) done here in
    let exact : memory ≡ rounds_onto first k there.readings =
    exact_law given uuid first (taken_texts main ended channels) memory k is_table is_image is_memory there in
    let there_same : there.readings ≡ readings =
    same_readings own_given uuid (taken_texts main ended channels) there.readings readings is_table.has_page_size there.are_readings here.are_readings in (
      done,
      all,
      exact ∙ ap (λ (r : Readings). rounds_onto first k r) there_same ∙ ap (λ (n : ℕ). rounds_onto first n readings) all
          ∙ all_rounds first.table sent.batch_limit (length channels) rounds readings is first,
    )

-- a sender's streams are loaded in place: the memory has the rounds sent on top of its content
pub sent_law : SentIsLoadedInPlace
sent_law uuid limit first rounds main ended channels memory k verdict is_table is_image is_memory sent room here =
    read_in_place Ram (ram_settings first.table.page_size limit) uuid first rounds main ended channels memory k verdict is_table
    is_image is_memory refl (none_lets (length channels) rounds) refl
    (as_sent read_back first.table uuid limit rounds main channels sent room) here

-- a sender's streams are loaded in place whatever follows the end byte, if the limits let them in
pub within_law : SentIsLoadedWithin
within_law given uuid first rounds main ended channels memory k verdict is_table is_image is_memory frame lets flushes sent room here =
    read_in_place Ram given uuid first rounds main ended channels memory k verdict is_table is_image is_memory frame lets flushes
    (before_as_sent read_back first.table uuid given.limit rounds main channels sent room) here

-- a sender's streams with a machine's main stream are loaded in place in a machine's frame
pub machine_sent_law : MachineSentIsLoadedInPlace
machine_sent_law given uuid first rounds main ended channels memory k verdict is_table is_image is_memory frame lets flushes sent room here =
    read_in_place Machine given uuid first rounds main ended channels memory k verdict is_table is_image is_memory frame lets flushes
    (machine_as_sent (machine_sendings_are_read_back machine_mains read_back) first.table uuid given.limit rounds main channels sent room) here
