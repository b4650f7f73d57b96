-- What was sent on several channels is loaded, as the single stream of the same rounds is.
use Rattle.std.proofs.Common.{ℕ, ◌≡◌, ◌+◌, ◌<◌, ◌≤◌, true, false, List, [], ◌∷◌, length, map, replicate, refl, sym, ap, ◌∙◌, Option, Some, None, subst}
use Rattle.std.specs.Option.{option_map, option_and_then}
use Rattle.std.specs.List.{All, list_all, list_any, range_with_len}
use Rattle.std.proofs.lemmas.List.{length-map}
use Rattle.std.proofs.lemmas.List.Elements.{All-nil, All-cons, All-head, All-tail, All-weaker, All-get_or}
use Rattle.std.proofs.lemmas.List.Folds.{list_any_none}
use Rattle.mig_mem.specs.RamTable.{RamTable, IsTable}
use Rattle.mig_mem.specs.PageSize.{IsPageSize}
use Rattle.mig_mem.specs.Place.{IsPlace}
use Rattle.mig_mem.specs.Image.{Image}
use Rattle.mig_mem.specs.Round.{after, round_of, IsRound}
use Rattle.mig_mem.proofs.Rounds.{image_round}
use Rattle.mig_stream.specs.declared.item.Frame.{Frame}
use Rattle.mig_stream.specs.declared.item.Frame.TheVariants.{Ram, Machine}
use Rattle.mig_stream.specs.declared.item.Mode.TheVariants.{Main}
use Rattle.mig_stream.specs.Reading.{StreamReading, IsReading, in_frame, settings}
use Rattle.mig_stream.specs.Law.{closed}
use Rattle.mig_stream.specs.Text.{total_bytes}
use Rattle.mig_stream.specs.Written.{single}
use Rattle.mig_send.specs.DealtRounds.{DealtRound, IsDealtRound}
use Rattle.mig_send.specs.ReadBack.{SendingsAreReadBack, MachineSendingsAreReadBack}
use Rattle.mig_answer.specs.declared.verdict.Verdict.{Verdict}
use Rattle.mig_answer.specs.declared.verdict.Verdict.TheVariants.{Done}
use Rattle.mig_single_load.specs.SingleLoad.{HasLoadedRounds}
use Rattle.mig_answer.specs.declared.status.Status.TheVariants.{Whole, Clean}
use Rattle.mig_answer.specs.Status.{is_whole, is_clean, is_pending, fault_of}
use Rattle.mig_answer.specs.Texts.{ended_texts, Readings, AreReadings}
use Rattle.mig_answer.specs.Rounds.{refusal_of, refusal_at, pages_at, memory_at}
use Rattle.mig_answer.specs.MultiLoad.{Standing, main_at, channels_at, sources_at, passes, IsFirstStop, failed_with_own, verdict_at, Answer, IsAnswer}
use Rattle.mig_mem.specs.First.{first_some}
use Rattle.mig_answer.specs.Sent.{IsSentInAnyOrder, IsMachineSentInAnyOrder, sent_rounds, sent_answer, SendingsAreLoaded, ChannelsLoadAsOneStream}
use Rattle.mig_single_load.proofs.Sections.{sent_answer_is}
use Rattle.mig_answer.proofs.Statuses.{all_pass}
use Rattle.mig_answer.proofs.OneAnswer.{is_answer_at}
use Rattle.mig_answer.proofs.Dealt.{is_brought}
use Rattle.mig_answer.proofs.Sent.{AreToldOf, framed, IsReadAsSent, told_of, Stands, whole_below, clean_at_end, hellos_differ}
use Rattle.mig_answer.proofs.SentRounds.{AreOfSending, round_at, no_round, fits, lawful_round, memory_is}
use Rattle.mig_stream.proofs.WrittenText.{written_main}
use Rattle.mig_stream.proofs.SpelledText.{spelled_law}
use Rattle.mig_send.proofs.ReadBack.{sendings_are_read_back}

-- ---- each round passes, and then all is done

passed : (table : RamTable) (limit channels : ℕ) (rounds : List DealtRound) (readings : Readings) → AreOfSending table limit channels rounds readings
    → (k : ℕ) → k < length rounds → passes k readings ≡ true
passed table limit channels rounds readings is k below =
    let whole : list_all (λ (s : Standing). is_whole s.status) (sources_at k readings) ≡ true =
    all_pass (λ (s : Standing). is_whole s.status) (sources_at k readings)
    (All-weaker (λ (s : Standing). s.status ≡ Whole) (λ (s : Standing). is_whole s.status ≡ true) (λ s e. ap is_whole e) (sources_at k readings)
    (whole_below table channels k rounds readings is.told below)) in
    let hellos = hellos_differ table channels rounds readings is.told in
    let lawful : refusal_at k readings ≡ None =
    ap (λ (r : StreamReading). option_and_then (λ t. refusal_of t k readings) r.table) is.told.has_main
    ∙ lawful_round table limit channels rounds readings is k below in
    rw (whole, hellos, lawful) refl

no_faults : (k : ℕ) (sources : List Standing) → All (λ (s : Standing). s.status ≡ Clean) sources → first_some (map (failed_with_own k) sources) ≡ None
no_faults k [] all = refl
no_faults k (s ∷ sources) all =
    let here : fault_of s.status ≡ None = ap fault_of (All-head (λ (x : Standing). x.status ≡ Clean) s sources all) in
    rw here (no_faults k sources (All-tail (λ (x : Standing). x.status ≡ Clean) s sources all))

-- after the last round of a sending the verdict is Done
pub done_is : (table : RamTable) (limit channels : ℕ) (rounds : List DealtRound) (readings : Readings) → AreOfSending table limit channels rounds readings
    → verdict_at (length rounds) readings ≡ Done
done_is table limit channels rounds readings is =
    let n : ℕ = length rounds in
    let clean : Stands n Clean readings = clean_at_end table channels rounds readings is.told in
    let none_pending : list_any (λ (s : Standing). is_pending s.status) (sources_at n readings) ≡ false =
    list_any_none (λ (s : Standing). is_pending s.status) (sources_at n readings)
    (All-weaker (λ (s : Standing). s.status ≡ Clean) (λ (s : Standing). is_pending s.status ≡ false) (λ s e. ap is_pending e) (sources_at n readings) clean) in
    let none_bad = no_faults n (sources_at n readings) clean in
    let hellos = hellos_differ table channels rounds readings is.told in
    let all_clean : list_all (λ (s : Standing). is_clean s.status) (sources_at n readings) ≡ true =
    all_pass (λ (s : Standing). is_clean s.status) (sources_at n readings)
    (All-weaker (λ (s : Standing). s.status ≡ Clean) (λ (s : Standing). is_clean s.status ≡ true) (λ s e. ap is_clean e) (sources_at n readings) clean) in
    rw (none_pending, none_bad, hellos, all_clean) refl

stops : (table : RamTable) (limit channels : ℕ) (rounds : List DealtRound) (readings : Readings) → AreOfSending table limit channels rounds readings
    → IsFirstStop readings (length rounds)
stops table limit channels rounds readings is =
    let main : (main_at (length rounds) readings).status ≡ Clean =
    All-head (λ (s : Standing). s.status ≡ Clean) (main_at (length rounds) readings) (channels_at (length rounds) readings)
    (clean_at_end table channels rounds readings is.told) in
    let not_whole : is_whole (main_at (length rounds) readings).status ≡ false = ap is_whole main in
    record { before = λ k below. passed table limit channels rounds readings is k below; here = rw not_whole refl }

-- ---- the law

-- what streams of a sending say, they say of its rounds
pub of_told : (frame : Frame) (table : RamTable) (uuid : List ℕ) (limit : ℕ) (rounds : List DealtRound) (main : List
    ℕ) (channels : List (List ℕ)) (readings : Readings)
    → (sent : IsReadAsSent frame table uuid limit rounds main channels) → AreToldOf table (length channels) rounds readings
    → AreOfSending table sent.batch_limit (length channels) rounds readings
of_told frame table uuid limit rounds main channels readings sent told = record {
  told = told;
  are_dealt = sent.is_sending.are_dealt;
  are_numbered = sent.is_sending.are_numbered;
  are_brought = λ k below. is_brought table sent.batch_limit (length channels) (round_at table rounds k) sent.is_sending.is_set.has_limit.1
      (fits rounds k (no_round table) sent.is_sending.are_numbered below sent.is_sending.numbers_fit)
      (All-get_or (IsDealtRound table sent.batch_limit (length channels)) rounds k (no_round table) below sent.is_sending.are_dealt);
}

-- readings of streams that are read as they were sent, and have ended, are those of a sending of
-- these rounds
pub of_read : (frame : Frame) (table : RamTable) (uuid : List ℕ) (limit : ℕ) (rounds : List DealtRound) (main : List
    ℕ) (channels : List (List ℕ)) (readings : Readings)
    → (sent : IsReadAsSent frame table uuid limit rounds main channels)
    → AreReadings (framed frame table.page_size limit) uuid (ended_texts main channels) readings
    → AreOfSending table sent.batch_limit (length channels) rounds readings
of_read frame table uuid limit rounds main channels readings sent are =
    of_told frame table uuid limit rounds main channels readings sent (told_of frame table uuid limit rounds main channels readings sent are)

-- streams that are read as they were sent have the sending's answer alone
pub read_law : (frame : Frame) (table : RamTable) (uuid : List ℕ) (limit : ℕ) (rounds : List DealtRound) (main : List
    ℕ) (channels : List (List ℕ)) (answer : Answer)
    → IsReadAsSent frame table uuid limit rounds main channels
    → IsAnswer (framed frame table.page_size limit) uuid (ended_texts main channels) answer → answer ≡ sent_answer table rounds
read_law frame table uuid limit rounds main channels answer sent answers =
    let size : IsPageSize table.page_size = sent.is_sending.is_set.has_table.has_page_size in
    let readings : Readings = answers.readings in
    let is : AreOfSending table sent.batch_limit (length channels) rounds readings =
    of_read frame table uuid limit rounds main channels readings sent answers.are_readings in
    let n : ℕ = length rounds in
    let memory : memory_at n readings ≡ Some (after table (sent_rounds rounds)) =
    ap (λ (r : StreamReading). option_map (λ t. after t (map (λ i. pages_at t i readings) (range_with_len 0 n))) r.table) is.told.has_main
    ∙ ap (λ (m : Image). Some m) (memory_is table sent.batch_limit (length channels) rounds readings is) in
    is_answer_at (framed frame table.page_size limit) uuid (ended_texts main channels) readings n answer size answers.are_readings
    (stops table sent.batch_limit (length channels) rounds readings is) answers
    ∙ ap (λ (m : Option Image). record { memory = m; rounds = n; verdict = verdict_at n readings }) memory
    ∙ ap (λ (v : Verdict). record { memory = Some (after table (sent_rounds rounds)); rounds = n; verdict = v })
    (done_is table sent.batch_limit (length channels) rounds readings is)

-- ---- a main stream of RAM's sections alone

abbrev pub as_sent : SendingsAreReadBack → (table : RamTable) (uuid : List ℕ) (limit : ℕ) (rounds : List DealtRound) (main : List ℕ) (channels : List (List ℕ))
    → IsSentInAnyOrder table uuid rounds main channels → total_bytes table ≤ limit → IsReadAsSent Ram table uuid limit rounds main channels
as_sent back table uuid limit rounds main channels sent room =
    let read = back table uuid sent.batch_limit (length channels) rounds main sent.in_order sent.is_sending in
    record {
      batch_limit = sent.batch_limit;
      ram = main;
      in_order = sent.in_order;
      is_sending = sent.is_sending;
      is_permutation = sent.is_permutation;
      main_is_read = read.main_is_read limit room;
      channels_are_read = read.channels_are_read;
    }

-- if sendings are read back, the streams that were sent, in any order of their channels, are
-- loaded: done, with all rounds
pub sendings_law : SendingsAreReadBack → SendingsAreLoaded
sendings_law back = λ table uuid limit rounds main channels answer sent room answers.
    read_law Ram table uuid limit rounds main channels answer (as_sent back table uuid limit rounds main channels sent room) answers

-- ---- a machine's main stream

abbrev pub machine_as_sent : MachineSendingsAreReadBack
    → (table : RamTable) (uuid : List ℕ) (limit : ℕ) (rounds : List DealtRound) (main : List ℕ) (channels : List (List ℕ))
    → IsMachineSentInAnyOrder table uuid rounds main channels → total_bytes table ≤ limit → IsReadAsSent Machine table uuid limit rounds main channels
machine_as_sent back table uuid limit rounds main channels sent room =
    let read = back sent.name table uuid sent.batch_limit (length channels) rounds sent.ram sent.in_order sent.has_name sent.is_sending in
    record {
      batch_limit = sent.batch_limit;
      ram = _;
      in_order = sent.in_order;
      is_sending = sent.is_sending.is_sending;
      is_permutation = sent.is_permutation;
      main_is_read = subst (λ (bytes : List ℕ). IsReading (in_frame Machine (settings Main table.page_size limit)) bytes
          (closed table (replicate (length rounds) [])))
          (sym sent.has_main) (read.0 limit sent.behind room);
      channels_are_read = read.1.channels_are_read;
    }

-- ---- beside the single stream

-- what was dealt of a table are rounds of it
dealt_rounds : (table : RamTable) (limit channels : ℕ) (rounds : List DealtRound) → All (IsDealtRound table limit channels) rounds
    → All (IsRound table) (sent_rounds rounds)
dealt_rounds table limit channels [] all = All-nil (IsRound table)
dealt_rounds table limit channels (r ∷ rounds) all =
    let dealt : IsDealtRound table limit channels r = All-head (IsDealtRound table limit channels) r rounds all in
    let here : IsRound r.snapshot.image.table (round_of r.snapshot.image r.snapshot.dirty) =
    image_round r.snapshot.image r.snapshot.dirty dealt.has_image
    (subst (λ (t : RamTable). All (IsPlace t) r.snapshot.dirty) (sym dealt.has_table) dealt.has_places.is_within) in
    All-cons (IsRound table) (round_of r.snapshot.image r.snapshot.dirty) (sent_rounds rounds)
    (subst (λ (t : RamTable). IsRound t (round_of r.snapshot.image r.snapshot.dirty)) dealt.has_table here)
    (dealt_rounds table limit channels rounds (All-tail (IsDealtRound table limit channels) r rounds all))

-- if sendings are read back, their load has the memory and the verdict that the load of the
-- single stream of these rounds has
pub one_stream_law : {A : Type 0} → SendingsAreReadBack → ChannelsLoadAsOneStream A
one_stream_law back = λ table uuid limit limit_alone rounds main channels answer alone sent room room_alone answers alone_answers.
    let is_table : IsTable table = sent.is_sending.is_set.has_table in
    let several : answer ≡ sent_answer table rounds = sendings_law back table uuid limit rounds main channels answer sent room answers in
    let all : All (IsRound table) (sent_rounds rounds) = dealt_rounds table sent.batch_limit (length channels) rounds sent.is_sending.are_dealt in
    let one : HasLoadedRounds table (sent_rounds rounds) alone =
    sent_answer_is table.page_size limit_alone
    (single table (sent_rounds rounds)) alone is_table.has_page_size alone_answers table (sent_rounds rounds) is_table refl room_alone all refl in
    let snapshots = map (λ (r : DealtRound). r.snapshot) rounds in
    let many : length (sent_rounds rounds) ≡ length rounds = length-map snapshots (λ s. round_of s.image s.dirty)
    ∙ length-map rounds (λ (r : DealtRound). r.snapshot) in (
      ap (λ (a : Answer). a.memory) several ∙ sym one.has_memory,
      ap (λ (a : Answer). a.rounds + 2) several ∙ ap (λ n. n + 2) (sym many) ∙ sym one.has_rounds,
      ap (λ (a : Answer). a.verdict) several,
      one.has_verdict,
    )

-- what the sender on several channels writes is loaded as it was sent
pub sendings_are_loaded : SendingsAreLoaded
sendings_are_loaded = sendings_law (sendings_are_read_back (λ limit table n is room. written_main table n limit is room) spelled_law)
