-- The answer of a load of what a relay brings.
use Rattle.std.proofs.Common.{ℕ, ◌≡◌, ◌<◌, ◌≤◌, Bool, true, false, List, [], ◌∷◌, length, map, replicate, refl, sym, ap, ◌∙◌, inl, inr, Option, Some, None}
use Rattle.std.proofs.Common.{arith, subst}
use Rattle.std.specs.Prelude.{◌^◌, IsTrue}
use Rattle.std.specs.List.{All, AllZip, range_with_len}
use Rattle.std.specs.Option.{option_map, IsSomeAnd}
use Rattle.std.proofs.lemmas.List.{length-map}
use Rattle.std.proofs.lemmas.List.Elements.{All-head, All-tail}
use Rattle.mig_mem.specs.PageSize.{IsPageSize}
use Rattle.mig_mem.specs.RamTable.{RamTable}
use Rattle.mig_mem.specs.Image.{Image}
use Rattle.mig_mem.specs.Round.{after}
use Rattle.mig_mem.proofs.Rounds.{after-nil}
use Rattle.mig_stream.specs.declared.item.StreamState.{StreamState}
use Rattle.mig_stream.specs.PageRecord.{PageRecord}
use Rattle.mig_stream.specs.Reading.{StreamReading}
use Rattle.mig_stream.specs.Reader.{Reader, Stands, Tells, HasTable, HasRound, HasState, HasClosedAt, IsValidUpTo}
use Rattle.mig_stream.proofs.Exists.{one_reading_law}
use Rattle.mig_stream.proofs.Limits.{limits_law}
use Rattle.mig_packet.specs.Reading.{settings, with_waiting}
use Rattle.mig_assemble.specs.Target.{LoadTarget, new_target}
use Rattle.mig_load_types.specs.Settings.{main_of}
use Rattle.mig_load_types.specs.declared.settings.LoadSettings.{LoadSettings}
use Rattle.mig_load_types.specs.declared.loaded.Loaded.{Loaded}
use Rattle.mig_relay.specs.declared.log.ChannelText.{ChannelText}
use Rattle.mig_single_load.specs.SingleLoad.{no_memory_at, unloaded}
use Rattle.mig_answer.specs.Texts.{AreReadings, ended_texts}
use Rattle.mig_answer.specs.Rounds.{pages_at, memory_at, missing_after, missing_at}
use Rattle.mig_answer.specs.MultiLoad.{passes, IsFirstStop, verdict_at, as_verdict, answer_of, IsAnswerOrWithoutMemory, SaysOfStreamsOrNothing}
use Rattle.mig_answer.specs.Received.{round_count}
use Rattle.mig_relay.specs.RelayItems.{with_settings, QueueEnd, IsThrough}
use Rattle.mig_relay.specs.Relayed.{IsRelayOf, IsRelay, Continues, HasReceived, AreAtRound, Load, IsLoadOf, HaveRounds, HasEnded, EndsAt, Goes, Begins}
use Rattle.mig_relay.specs.Relayed.{AreMainPlaces, IsAnswerOf}
use Rattle.mig_relay.specs.declared.relayed.MainPlaces.{MainPlaces}
use Rattle.mig_answer.proofs.NamedRounds.{named_at_first}
use Rattle.mig_answer.proofs.OneAnswer.{some_readings}
use Rattle.mig_relay.proofs.Relays.{sizes_are, limits_are}
use Rattle.mig_relay.proofs.GoingThrough.{goes_on}
use Rattle.mig_relay.proofs.MainStream.{main_so_far, same_main, ends_in}

-- ---- what was taken

-- if all ends continue, with k rounds, and are through if the load is done, each has received
-- k rounds, and the stop if it is done
pub were_received : (k : ℕ) (done : Bool) (old new : List QueueEnd) → AllZip Continues old new → HaveRounds k new
    → (done ≡ true → All IsThrough new) → AllZip (HasReceived k done) old new
were_received k done [] [] zip have through = tt
were_received k done [] (q ∷ qs) zip have through = absurd zip
were_received k done (p ∷ ps) [] zip have through = absurd zip
were_received k done (p ∷ ps) (q ∷ qs) zip have through = (
  record {
    continues = zip.0;
    has_rounds = All-head (λ (p : QueueEnd). k ≤ round_count p.passed) q qs have;
    has_stop = λ is. All-head IsThrough q qs (through is);
  },
  were_received k done ps qs zip.1 (All-tail (λ (p : QueueEnd). k ≤ round_count p.passed) q qs have) (λ is. All-tail IsThrough q qs (through is)),
)

-- nothing, of a load that ended before
pub none_received : (ends : List QueueEnd) → AllZip (HasReceived 0 false) ends ends
none_received [] = tt
none_received (p ∷ ends) = (record { continues = goes_on p; has_rounds = omega arith; has_stop = λ is. absurd cc }, none_received ends)

-- ---- the answer

-- if the first k rounds pass, and a load has ended at k with the memory after them, this is the
-- answer on its streams
pub answers_with : {A : Type 0} (l : Load) (k : ℕ) (a : Loaded A) (now : List QueueEnd) → AreReadings l.given l.uuid (ended_texts l.main l.texts) l.readings
    → ((j : ℕ) → j < k → IsTrue (passes j l.readings)) → a.rounds ≡ k → a.memory ≡ memory_at k l.readings → HasEnded l k a.verdict now
    → a.missing ≡ missing_at k l.readings → (places : MainPlaces) → AreMainPlaces l places → a.closed_at ≡ places.closed_at
    → a.valid_up_to ≡ Some places.valid_up_to → IsAnswerOf l a
answers_with l k a now are passed rounds memory ended missing places at closed valid = (
  elim ended.is_answered [
    | inl stop ↦ inl (record {
      readings = l.readings;
      are_readings = are;
      has_rounds = subst (λ (n : ℕ). IsFirstStop l.readings n) (sym rounds) stop.0;
      has_memory = memory ∙ ap (λ (n : ℕ). memory_at n l.readings) (sym rounds);
      has_verdict = sym (ap (λ (n : ℕ). verdict_at n l.readings) rounds ∙ stop.1);
    })
    | inr without ↦ inr (record {
      readings = l.readings;
      are_readings = are;
      have_passed = subst (λ (n : ℕ). (j : ℕ) → j < n → IsTrue (passes j l.readings)) (sym rounds) passed;
      has_memory = inl (memory ∙ ap (λ (n : ℕ). memory_at n l.readings) (sym rounds));
      has_verdict = ap as_verdict (without ∙ ap no_memory_at (sym rounds));
    })
  ],
  inl (record {
    readings = l.readings;
    are_readings = are;
    has_missing = missing ∙ ap (λ (n : ℕ). missing_at n l.readings) (sym rounds);
    has_closed_at = subst (λ (o : Option ℕ). HasClosedAt (main_of l.given) l.main o) (sym closed) at.is_closed_at;
    has_valid_up_to = subst (λ (o : Option ℕ). IsSomeAnd o (IsValidUpTo (main_of l.given) l.main)) (sym valid) at.is_valid_up_to;
  }),
)

-- the places of the main stream, from its reader
pub places_of_main : (l : Load) (reader : Reader) (n : ℕ) (places : MainPlaces) → Stands (main_of l.given) (main_so_far l.main n) reader
    → Tells reader (λ given so_far. HasClosedAt given so_far.text places.closed_at × IsValidUpTo given so_far.text places.valid_up_to) → AreMainPlaces l places
places_of_main l reader n places stands tells =
    let both = tells (main_of l.given) (main_so_far l.main n) stands in
    record { is_closed_at = both.0; is_valid_up_to = both.1 }

-- the answer after a refused allocation is one of any load
pub answers_without : (A : Type 0) (l : Load) → AreReadings l.given l.uuid (ended_texts l.main l.texts) l.readings
    → IsAnswerOf {A = A} l unloaded
answers_without A l are = (
  inr (record {
    readings = l.readings;
    are_readings = are;
    have_passed = λ j below. absurd (omega (arith, below));
    has_memory = inr (refl, refl);
    has_verdict = refl;
  }),
  inr refl,
)

-- ---- the beginning

-- without a table there is no round
pub ends_without_table : (l : Load) (reader : Reader) (state : StreamState) (places : List ℕ) (ends : List QueueEnd) → Begins l reader places ends
    → HasTable (main_of l.given) l.main None → HasState (main_of l.given) l.main true state → EndsAt l 0 state places ends
ends_without_table l reader state places ends begins has state_is =
    ends_in l 0 reader state places ends begins.loading begins.stands last state_is
  where
    last : (i : ℕ) (round : List PageRecord) → HasRound (main_of l.given) l.main i round → i < 0
    last i round there =
        let size = begins.loading.is_page_size in
        let one = one_reading_law (main_of l.given) l.main size in
        let same : has.0 ≡ there.0 = one.2 has.0 has.1 ∙ sym (one.2 there.0 there.1) in
        let none : there.0.rounds ≡ [] =
        (limits_law (main_of l.given) l.main there.0 size there.1).has_table_first (sym (has.2 ∙ ap (λ (r : StreamReading). r.table) same)) in
        let below = there.2 in
        absurd (omega (arith, below, ap (λ (rs : List (List PageRecord)). length rs) none))

-- a load that begins on a main stream without a complete table has no memory at round 0
pub no_memory_there : (l : Load) (reader : Reader) (places : List ℕ) (ends : List QueueEnd) → Begins l reader places ends
    → HasTable (main_of l.given) l.main None
    → memory_at 0 l.readings ≡ None
no_memory_there l reader places ends begins has =
    let same = same_main l 0 places ends has.0 begins.loading has.1 in
    let none : l.readings.main.table ≡ None = ap (λ (r : StreamReading). r.table) same ∙ sym has.2 in
    ap (option_map (λ t. after t (map (λ i. pages_at t i l.readings) (range_with_len 0 0)))) none

-- nor is a page missing then
pub none_missing_there : (l : Load) (reader : Reader) (places : List ℕ) (ends : List QueueEnd) → Begins l reader places ends
    → HasTable (main_of l.given) l.main None
    → None ≡ missing_at 0 l.readings
none_missing_there l reader places ends begins has =
    let same = same_main l 0 places ends has.0 begins.loading has.1 in
    let none : l.readings.main.table ≡ None = ap (λ (r : StreamReading). r.table) same ∙ sym has.2 in
    ap (option_map (λ t. missing_after t 0 l.readings)) (sym none)

-- with one there is a memory of zeros
pub goes_from_zeros : (l : Load) (reader : Reader) (table : RamTable) (target : LoadTarget) (places : List ℕ) (ends : List
    QueueEnd) → Begins l reader places ends
    → HasTable (main_of l.given) l.main (Some table) → target ≡ new_target table → Goes l reader target places ends
goes_from_zeros l reader table target places ends begins has is = rw is (record {
  stands = begins.stands;
  loading = begins.loading;
  has_loaded = record {
    has_memory =
        let same = same_main l 0 places ends has.0 begins.loading has.1 in
        let some : l.readings.main.table ≡ Some table = ap (λ (r : StreamReading). r.table) same ∙ sym has.2 in
        ap (option_map (λ t. after t (map (λ i. pages_at t i l.readings) (range_with_len 0 0)))) some ∙ ap (λ (m : Image). Some m) (after-nil table);
    has_named =
        let same = same_main l 0 places ends has.0 begins.loading has.1 in
        named_at_first table l.readings (ap (λ (r : StreamReading). r.table) same ∙ sym has.2);
    has_rounds = refl;
    has_base = refl;
  };
  few_packets = omega arith;
  is_short = begins.is_short;
})

-- all channels are at the start
pub are_at_start : (ends : List QueueEnd) → AreAtRound 0 (replicate (length ends) 0) ends
are_at_start [] = tt
are_at_start (p ∷ ends) = (
  record { rounds = []; has_count = refl; is_at = record { within = omega arith; has_rounds = λ more. refl; is_open = refl } },
  are_at_start ends,
)

-- ---- the relay

-- its channels are these
none_of_relay : (page_size : ℕ) (waiting : Option ℕ) (uuid : List ℕ) (texts : List (List ℕ)) → IsRelayOf page_size waiting uuid texts [] → ⊥
none_of_relay page_size waiting uuid texts is =
    let some = is.has_some in
    omega (
      arith,
      some,
      ap (λ (l : List ChannelText). length l) is.has_sources,
      length-map texts (with_settings (with_waiting waiting (settings page_size uuid (length texts)))),
    )

-- the page size that all channels of a relay have is the relay's
pub relay_size : (page_size n : ℕ) (waiting : Option ℕ) (uuid : List ℕ) (texts : List (List ℕ)) (ends : List QueueEnd)
    → IsRelayOf page_size waiting uuid texts ends
    → All (λ p. p.source.page_size ≡ n) ends → n ≡ page_size
relay_size page_size n waiting uuid texts [] is all = absurd (none_of_relay page_size waiting uuid texts is)
relay_size page_size n waiting uuid texts (p ∷ ends) is all =
    sym (All-head (λ (p : QueueEnd). p.source.page_size ≡ n) p ends all)
    ∙ All-head (λ (p : QueueEnd). p.source.page_size ≡ page_size) p ends
    (sizes_are (with_waiting waiting (settings page_size uuid (length texts))) texts (p ∷ ends) is.has_sources)

-- the limit on what waits that all channels of a relay have is the relay's
pub relay_limit : (page_size : ℕ) (waiting limit : Option ℕ) (uuid : List ℕ) (texts : List (List ℕ)) (ends : List QueueEnd)
    → IsRelayOf page_size waiting uuid texts ends
    → All (λ p. p.source.waiting ≡ limit) ends → limit ≡ waiting
relay_limit page_size waiting limit uuid texts [] is all = absurd (none_of_relay page_size waiting uuid texts is)
relay_limit page_size waiting limit uuid texts (p ∷ ends) is all =
    sym (All-head (λ (p : QueueEnd). p.source.waiting ≡ limit) p ends all)
    ∙ All-head (λ (p : QueueEnd). p.source.waiting ≡ waiting) p ends
    (limits_are (with_waiting waiting (settings page_size uuid (length texts))) texts (p ∷ ends) is.has_sources)

-- a load of them, with what they say
abbrev pub load_of : (given : LoadSettings) (uuid : List ℕ) (main : List ℕ) (texts : List (List ℕ)) → IsPageSize given.page_size → Load
load_of given uuid main texts size = record {
  given = given;
  uuid = uuid;
  main = main;
  texts = texts;
  readings = (some_readings given uuid (ended_texts main texts) size).0;
}

-- it is one of them, with these settings but for those that the relay has
pub is_load_of : (given : LoadSettings) (main : List ℕ) (ends : List QueueEnd) (page_size : ℕ) (waiting : Option ℕ) (uuid : List
    ℕ) (texts : List (List ℕ)) (size : IsPageSize page_size)
    → IsRelayOf page_size waiting uuid texts ends
    → IsLoadOf given main ends (load_of (record given { page_size = page_size; waiting = waiting }) uuid main texts size)
is_load_of given main ends page_size waiting uuid texts size is = record {
  has_settings = refl;
  has_main = refl;
  is_page_size = size;
  is_relay = is;
  are_readings = (some_readings (record given { page_size = page_size; waiting = waiting }) uuid (ended_texts main texts) size).1;
}

-- there is one
pub load_of_relay : (given : LoadSettings) (main : List ℕ) (ends : List QueueEnd) → IsRelay ends → (l : Load) × IsLoadOf given main ends l
load_of_relay given main ends relay = (
  load_of (record given { page_size = relay.page_size; waiting = relay.waiting }) relay.uuid main relay.texts relay.is_page_size,
  is_load_of given main ends relay.page_size relay.waiting relay.uuid relay.texts relay.is_page_size relay.is_relay,
)

-- the relay's page size is one
pub size_known : (given : LoadSettings) (main : List ℕ) (ends : List QueueEnd) (known : Load) (page_size : ℕ) (waiting : Option
    ℕ) (uuid : List ℕ) (texts : List (List ℕ))
    → IsLoadOf given main ends known → IsRelayOf page_size waiting uuid texts ends → IsPageSize page_size
size_known given main ends known page_size waiting uuid texts is relay =
    let sizes = sizes_are (with_waiting known.given.waiting (settings known.given.page_size known.uuid (length known.texts)))
    known.texts ends is.is_relay.has_sources in
    subst IsPageSize (relay_size page_size known.given.page_size waiting uuid texts ends relay sizes) is.is_page_size

-- so its answer is that of a load of the relay's channels
pub relay_answer : {A : Type 0} (given : LoadSettings) (main : List ℕ) (ends : List QueueEnd) (loaded : Loaded A) (known : Load)
    → IsLoadOf given main ends known
    → ((l : Load) → IsLoadOf given main ends l → IsAnswerOf l loaded)
    → (page_size : ℕ) (waiting : Option ℕ) (uuid : List ℕ) (texts : List (List ℕ)) → IsRelayOf page_size waiting uuid texts ends
    → IsAnswerOrWithoutMemory (record given { page_size = page_size; waiting = waiting }) uuid (ended_texts main texts) (answer_of loaded)
    × SaysOfStreamsOrNothing (record given { page_size = page_size; waiting = waiting }) uuid (ended_texts main texts) loaded
relay_answer given main ends loaded known is answers page_size waiting uuid texts relay =
    let size = size_known given main ends known page_size waiting uuid texts is relay in
    answers (load_of (record given { page_size = page_size; waiting = waiting }) uuid main texts size)
    (is_load_of given main ends page_size waiting uuid texts size relay)

-- a load of a relay with its page size and limit begins with a reader that was given the main
-- stream, at place 0 of each channel
pub begins_load : (given : LoadSettings) (main : List ℕ) (ends : List
    QueueEnd) (reader : Reader) (l : Load) (n : ℕ) (limit : Option ℕ) → IsLoadOf given main ends l
    → All (λ p. p.source.page_size ≡ n) ends → All (λ p. p.source.waiting ≡ limit) ends
    → Stands (main_of (record given { page_size = n; waiting = limit })) (main_so_far main 0) reader → length main < 2 ^ 63
    → Begins l reader (replicate (length ends) 0) ends
begins_load given main ends reader l n limit is sizes limits stands short =
    let same = relay_size l.given.page_size n l.given.waiting l.uuid l.texts ends is.is_relay sizes in
    let same_limit = relay_limit l.given.page_size l.given.waiting limit l.uuid l.texts ends is.is_relay limits in
    let of_relay : Stands (main_of (record given { page_size = l.given.page_size; waiting = l.given.waiting })) (main_so_far main 0) reader =
    subst (λ (x : ℕ × Option ℕ). Stands (main_of (record given { page_size = x.0; waiting = x.1 })) (main_so_far main 0) reader)
    (λ i. (same i, same_limit i)) stands in
    let of_load : Stands (main_of l.given) (main_so_far main 0) reader =
    subst (λ (s : LoadSettings). Stands (main_of s) (main_so_far main 0) reader) (sym is.has_settings) of_relay in
    record {
      stands = subst (λ (m : List ℕ). Stands (main_of l.given) (main_so_far m 0) reader) (sym is.has_main) of_load;
      loading = record {
        is_page_size = is.is_page_size;
        is_relay = is.is_relay;
        are_readings = is.are_readings;
        have_passed = λ j below. absurd (omega (arith, below));
        are_at = are_at_start ends;
      };
      is_short = subst (λ (m : List ℕ). length m < 2 ^ 63) (sym is.has_main) short;
    }
