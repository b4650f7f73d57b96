-- Streams that have ended are done or have a fault.
use Rattle.std.proofs.Common.{ℕ, ◌≡◌, ◌≢◌, ◌+◌, ◌<◌, ◌≤◌, Bool, true, false, cond, ◌&&◌, List, [], ◌∷◌, length, map, refl, sym, ap, ◌∙◌, inl, inr, Option, Some}
use Rattle.std.proofs.Common.{None, is_none, arith, find}
use Rattle.std.specs.Bool.{then_some}
use Rattle.std.specs.Option.{option_map, unwrap_or}
use Rattle.std.specs.List.{All, AllZip, list_all, list_any, enumerate_from}
use Rattle.std.proofs.lemmas.Bool.{cases_order, cases_lt, and_parts, cond-true}
use Rattle.std.proofs.lemmas.List.Elements.{All-nil, All-cons, All-head, All-tail}
use Rattle.std.proofs.lemmas.List.Folds.{list_any_none}
use Rattle.mig_mem.specs.PageSize.{IsPageSize}
use Rattle.mig_mem.specs.First.{first_some}
use Rattle.mig_mem.proofs.Lists.{map_none, then_none}
use Rattle.mig_stream.specs.declared.item.StreamState.{StreamState}
use Rattle.mig_stream.specs.declared.item.StreamState.TheVariants as stream
use Rattle.mig_stream.specs.Reading.{StreamReading, state_at}
use Rattle.mig_packet.specs.declared.state.ChannelState.{ChannelState}
use Rattle.mig_packet.specs.declared.state.ChannelState.TheVariants as channel
use Rattle.mig_packet.specs.Reading.{Settings, ChannelReading, IsReading}
use Rattle.mig_packet.proofs.Limits.{limits_law}
use Rattle.mig_load_types.specs.Settings.{channel_of}
use Rattle.mig_load_types.specs.declared.settings.LoadSettings.{LoadSettings}
use Rattle.mig_load_types.specs.declared.fault.Origin.TheVariants as origin
use Rattle.mig_load_types.specs.declared.fault.Fault.{Fault}
use Rattle.mig_load_types.specs.declared.fault.LoadFault.{LoadFault}
use Rattle.mig_load_types.specs.declared.fault.Fault.TheVariants as fault
use Rattle.mig_answer.specs.declared.verdict.Verdict.{Verdict}
use Rattle.mig_answer.specs.declared.verdict.Verdict.TheVariants.{Running, Done, Failed}
use Rattle.mig_answer.specs.declared.status.Status.{Status}
use Rattle.mig_answer.specs.Status.{status_at, main_status, channel_status, stream_end, channel_end, is_whole, is_clean, is_pending, fault_of}
use Rattle.mig_answer.specs.Texts.{Text, Texts, Readings, AreReadings}
use Rattle.mig_answer.specs.Rounds.{refusal_at}
use Rattle.mig_answer.specs.MultiLoad.{Standing, main_at, channels_at, sources_at, hello_ids, repeated_hello, passes, IsFirstStop, failed, failed_at_first}
use Rattle.mig_answer.specs.MultiLoad.{failed_with_own, verdicts_at, verdict_at}
use Rattle.mig_answer.specs.Law.{EndedTextsAreJudged}
use Rattle.mig_answer.proofs.Statuses.{status_whole, status_end, stream_ends, channel_ends, sound, passes_all, find_none, first_none, first_is}

-- ---- no source is pending

-- a source has all rounds before the first that doesn't pass, so it has this round, or these are
-- all
pub reached : (k rounds : ℕ) (end : Status) → k ≤ rounds → is_pending end ≡ false → is_pending (status_at k rounds end) ≡ false
reached k rounds end few settled = elim (cases_order k rounds) [
  | inl e ↦ ap is_pending (status_end k rounds end e) ∙ settled
  | inr ne ↦ elim ne [
    | inl lt ↦ ap is_pending (status_whole k rounds end lt)
    | inr gt ↦ absurd (omega (arith, few, gt))
  ]
]

-- a round that passes is one that a source has
pub has_round : (k rounds : ℕ) (end : Status) → is_whole end ≡ false → ((j : ℕ) → j < k → is_whole (status_at j rounds end) ≡ true) → k ≤ rounds
has_round k rounds end not_whole all = elim (cases_lt rounds k) [
  | inr few ↦ few
  | inl lt ↦ let t = all rounds lt in let f : is_whole (status_at rounds rounds end) ≡ false =
      ap is_whole (status_end rounds rounds end refl) ∙ not_whole in absurd cc
]

-- a main stream that has ended isn't pending
pub over_settles : (state : StreamState) (over : Bool) → over ≡ true → is_pending (stream_end (state_at over state)) ≡ false
over_settles stream.Reading over e = rw e refl
over_settles stream.Closed over e = rw e refl
over_settles (stream.Bad f) over e = rw e refl

state_settles : (state : ChannelState) → state ≢ channel.Reading → is_pending (channel_end state) ≡ false
state_settles channel.Reading settled = absurd (settled refl)
state_settles channel.Closed settled = refl
state_settles (channel.Bad f) settled = refl

-- at a round that passed each source has it whole
pub whole_at : (readings : Readings) (j : ℕ) → passes j readings ≡ true → All (λ (s : Standing). is_whole s.status ≡ true) (sources_at j readings)
whole_at readings j t =
    passes_all (λ (s : Standing). is_whole s.status) (sources_at j readings)
    (and_parts (list_all (λ (s : Standing). is_whole s.status) (sources_at j readings)) (is_none (repeated_hello (hello_ids readings))) (and_parts
    (list_all (λ (s : Standing). is_whole s.status) (sources_at j readings) && is_none (repeated_hello (hello_ids readings)))
    (is_none (refusal_at j readings)) t).0).0

abbrev pub IsWhole : Standing → Type 0
IsWhole s = is_whole s.status ≡ true

abbrev pub IsFinal : Standing → Type 0
IsFinal s = is_pending s.status ≡ false

abbrev standing_at : ℕ → (ℕ × ChannelReading) → Standing
standing_at k c = record { source = origin.Channel c.0; status = channel_status k c.1 }

-- channels that have all ended are settled at the round that follows those that they have whole
pub channels_settled : (given : Settings) (k n : ℕ) (texts : List Text) (channels : List ChannelReading) → IsPageSize given.page_size
    → AllZip (λ (text : Text) (reading : ChannelReading). IsReading given text.bytes text.ended reading) texts channels
    → All (λ (text : Text). text.ended ≡ true) texts
    → ((j : ℕ) → j < k → All IsWhole (map (standing_at j) (enumerate_from n channels)))
    → All IsFinal (map (standing_at k) (enumerate_from n channels))
channels_settled given k n [] [] size zip over all = All-nil IsFinal
channels_settled given k n [] (c ∷ channels) size zip over all = absurd zip
channels_settled given k n (text ∷ texts) [] size zip over all = absurd zip
channels_settled given k n (text ∷ texts) (c ∷ channels) size zip over all =
    let over_here : text.ended ≡ true = All-head (λ (t : Text). t.ended ≡ true) text texts over in
    let limits = limits_law given text.bytes text.ended c size zip.0 in
    let settled : is_pending (channel_end c.state) ≡ false = state_settles c.state (limits.is_settled over_here) in
    let few : k ≤ length c.rounds = has_round k (length c.rounds) (channel_end c.state) (channel_ends c.state)
    (λ j below. All-head IsWhole (standing_at j (n, c)) (map (standing_at j) (enumerate_from (n + 1) channels)) (all j below)) in
    All-cons IsFinal (standing_at k (n, c)) (map (standing_at k) (enumerate_from (n + 1) channels))
    (reached k (length c.rounds) (channel_end c.state) few settled)
    (channels_settled given k (n + 1) texts channels size zip.1 (All-tail (λ (t : Text). t.ended ≡ true) text texts over)
    (λ j below. All-tail IsWhole (standing_at j (n, c)) (map (standing_at j) (enumerate_from (n + 1) channels)) (all j below)))

none_pending : (given : LoadSettings) (uuid : List ℕ) (texts : Texts) (readings : Readings) (k : ℕ) → IsPageSize given.page_size → texts.main.ended ≡ true
    → All (λ (text : Text). text.ended ≡ true) texts.channels → AreReadings given uuid texts readings → IsFirstStop readings k
    → All IsFinal (sources_at k readings)
none_pending given uuid texts readings k size main_over over are stop =
    let end = stream_end readings.main.state in
    let settled : is_pending end ≡ false =
    ap (λ (r : StreamReading). is_pending (stream_end r.state)) are.has_main.has_end ∙ over_settles are.has_main.found.state texts.main.ended main_over in
    let few : k ≤ length readings.main.rounds = has_round k (length readings.main.rounds) end (stream_ends readings.main.state)
    (λ j below. All-head IsWhole (main_at j readings) (channels_at j readings) (whole_at readings j (stop.before j below))) in
    All-cons IsFinal (main_at k readings) (channels_at k readings) (reached k (length readings.main.rounds) end few settled)
    (channels_settled (channel_of given uuid (length texts.channels)) k 0 texts.channels readings.channels size are.has_channels over
    (λ j below. All-tail IsWhole (main_at j readings) (channels_at j readings) (whole_at readings j (stop.before j below))))

-- ---- and there is an answer

-- no source has a fault, if none is found
pub no_fault : (k : ℕ) (sources : List Standing) → first_some (map (failed_with_own k) sources) ≡ None
    → All (λ (s : Standing). fault_of s.status ≡ None) sources
no_fault k [] e = All-nil (λ (s : Standing). fault_of s.status ≡ None)
no_fault k (s ∷ sources) e =
    let parts = first_none (failed_with_own k s) (map (failed_with_own k) sources) e in
    All-cons (λ (x : Standing). fault_of x.status ≡ None) s sources (own (fault_of s.status) parts.0) (no_fault k sources parts.1)
  where
    own : (o : Option Fault) → option_map (failed k s.source) o ≡ None → o ≡ None
    own None e = refl
    own (Some f) e = absurd cc

-- sources that are settled and have no fault, none of which has this round, are clean
pub all_clean : (sources : List Standing) → All IsFinal sources → All (λ (s : Standing). fault_of s.status ≡ None) sources
    → All (λ (s : Standing). is_whole s.status ≡ false) sources
    → list_all (λ (s : Standing). is_clean s.status) sources ≡ true
all_clean [] settled sound not_whole = refl
all_clean (s ∷ sources) settled faultless not_whole =
    let here : is_clean s.status ≡ true = elim (sound s.status (All-head IsFinal s sources settled)
    (All-head (λ (x : Standing). fault_of x.status ≡ None) s sources faultless)) [
      | inl w ↦ let no : is_whole s.status ≡ false = All-head (λ (x : Standing). is_whole x.status ≡ false) s sources not_whole in
          let t : is_whole s.status ≡ true = ap is_whole w in absurd cc
      | inr c ↦ ap is_clean c
    ] in
    rw (
      here,
      all_clean sources (All-tail IsFinal s sources settled) (All-tail (λ (x : Standing). fault_of x.status ≡ None) s sources faultless)
          (All-tail (λ (x : Standing). is_whole x.status ≡ false) s sources not_whole),
    ) refl

-- and those none of which is clean all have it
pub all_whole : (sources : List Standing) → All IsFinal sources → All (λ (s : Standing). fault_of s.status ≡ None) sources
    → All (λ (s : Standing). is_clean s.status ≡ false) sources
    → list_all (λ (s : Standing). is_whole s.status) sources ≡ true
all_whole [] settled sound not_clean = refl
all_whole (s ∷ sources) settled faultless not_clean =
    let here : is_whole s.status ≡ true = elim (sound s.status (All-head IsFinal s sources settled)
    (All-head (λ (x : Standing). fault_of x.status ≡ None) s sources faultless)) [
      | inl w ↦ ap is_whole w
      | inr c ↦ let no : is_clean s.status ≡ false = All-head (λ (x : Standing). is_clean x.status ≡ false) s sources not_clean in
          let t : is_clean s.status ≡ true = ap is_clean c in absurd cc
    ] in
    rw (
      here,
      all_whole sources (All-tail IsFinal s sources settled) (All-tail (λ (x : Standing). fault_of x.status ≡ None) s sources faultless)
          (All-tail (λ (x : Standing). is_clean x.status ≡ false) s sources not_clean),
    ) refl

-- a test that finds nothing
pub none_found : (k : ℕ) (test : Status → Bool) (f : Fault) (sources : List Standing) → failed_at_first k test f sources ≡ None
    → All (λ (s : Standing). test s.status ≡ false) sources
none_found k test f sources e = find_none (λ (s : Standing). test s.status) sources (own (find (λ (s : Standing). test s.status) sources) e)
  where
    own : (o : Option Standing) → option_map (λ (s : Standing). failed k s.source f) o ≡ None → o ≡ None
    own None e = refl
    own (Some s) e = absurd cc

abbrev main_of : ℕ → Readings → Status
main_of k readings = main_status k readings.main

-- if no source is pending one of the answers is there
some_answer : (k : ℕ) (readings : Readings) → IsFirstStop readings k → All IsFinal (sources_at k readings) → first_some (verdicts_at k readings) ≢ None
some_answer k readings stop settled none =
    let m : Standing = main_at k readings in
    let cs : List Standing = channels_at k readings in
    let a2 : Option Verdict = first_some (map (failed_with_own k) (sources_at k readings)) in
    let a3 : Option Verdict = option_map (λ j. failed k (origin.Channel j) fault.HelloTwice) (repeated_hello (hello_ids readings)) in
    let a4 : Option Verdict = then_some (list_all (λ (s : Standing). is_clean s.status) (sources_at k readings)) Done in
    let a5 : Option Verdict = cond (is_clean m.status) (failed_at_first k is_whole fault.Extra cs) None in
    let a6 : Option Verdict = cond (is_whole m.status) (failed_at_first k is_clean fault.Short cs) None in
    let a7 : Option Verdict = option_map (λ f. failed k origin.Round (fault.Round f)) (refusal_at k readings) in
    let n1 = first_none (then_some (list_any (λ (s : Standing). is_pending s.status) (sources_at k readings)) Running)
    (a2 ∷ a3 ∷ a4 ∷ a5 ∷ a6 ∷ a7 ∷ []) none in
    let n2 = first_none a2 (a3 ∷ a4 ∷ a5 ∷ a6 ∷ a7 ∷ []) n1.1 in
    let n3 = first_none a3 (a4 ∷ a5 ∷ a6 ∷ a7 ∷ []) n2.1 in
    let n4 = first_none a4 (a5 ∷ a6 ∷ a7 ∷ []) n3.1 in
    let n5 = first_none a5 (a6 ∷ a7 ∷ []) n4.1 in
    let n6 = first_none a6 (a7 ∷ []) n5.1 in
    let n7 = first_none a7 [] n6.1 in
    let faultless = no_fault k (sources_at k readings) n2.0 in
    let not_all_clean : list_all (λ (s : Standing). is_clean s.status) (sources_at k readings) ≡ false =
    then_none (list_all (λ (s : Standing). is_clean s.status) (sources_at k readings)) Done n4.0 in
    elim (sound m.status (All-head IsFinal m cs settled) (All-head (λ (s : Standing). fault_of s.status ≡ None) m cs faultless)) [
      | inr clean ↦
          let c : is_clean m.status ≡ true = ap is_clean clean in
          let w : is_whole m.status ≡ false = ap is_whole clean in
          let none_whole = none_found k is_whole fault.Extra cs
          (sym (cond-true (is_clean m.status) (failed_at_first k is_whole fault.Extra cs) None c) ∙ n5.0) in
          let t : list_all (λ (s : Standing). is_clean s.status) (sources_at k readings) ≡ true =
          all_clean (sources_at k readings) settled faultless (All-cons (λ (s : Standing). is_whole s.status ≡ false) m cs w none_whole) in absurd cc
      | inl whole ↦
          let w : is_whole m.status ≡ true = ap is_whole whole in
          let c : is_clean m.status ≡ false = ap is_clean whole in
          let none_clean = none_found k is_clean fault.Short cs
          (sym (cond-true (is_whole m.status) (failed_at_first k is_clean fault.Short cs) None w) ∙ n6.0) in
          let t : list_all (λ (s : Standing). is_whole s.status) (sources_at k readings) ≡ true =
          all_whole (sources_at k readings) settled faultless (All-cons (λ (s : Standing). is_clean s.status ≡ false) m cs c none_clean) in
          let hellos : repeated_hello (hello_ids readings) ≡ None =
          map_none (λ j. failed k (origin.Channel j) fault.HelloTwice) (repeated_hello (hello_ids readings)) n3.0 in
          let lawful : refusal_at k readings ≡ None = map_none (λ f. failed k origin.Round (fault.Round f)) (refusal_at k readings) n7.0 in
          let passed : passes k readings ≡ true = rw (t, hellos, lawful) refl in
          let stopped : passes k readings ≡ false = stop.here in absurd cc
    ]

-- ---- and it isn't that more is needed

abbrev IsTold : Option Verdict → Type 0
IsTold o = (v : Verdict) → o ≡ Some v → v ≢ Running

told_fault : {X : Type 0} (f : X → LoadFault) (o : Option X) → IsTold (option_map (λ x. Failed (f x)) o)
told_fault f None v e running = absurd cc
told_fault f (Some x) v e running = absurd cc

told_own : (k : ℕ) (sources : List Standing) → All IsTold (map (failed_with_own k) sources)
told_own k [] = All-nil IsTold
told_own k (s ∷ sources) =
    All-cons IsTold (failed_with_own k s) (map (failed_with_own k) sources)
    (told_fault (λ f. record { round = k; source = s.source; fault = f }) (fault_of s.status)) (told_own k sources)

told_if : (b : Bool) (o : Option Verdict) → IsTold o → IsTold (cond b o None)
told_if true o told = told
told_if false o told = λ v e running. absurd cc

told_done : (b : Bool) → IsTold (then_some b Done)
told_done true v e running = absurd cc
told_done false v e running = absurd cc

told_pending : (b : Bool) → b ≡ false → IsTold (then_some b Running)
told_pending true f v e running = absurd cc
told_pending false f v e running = absurd cc

told_first : (k : ℕ) (test : Status → Bool) (f : Fault) (sources : List Standing) → IsTold (failed_at_first k test f sources)
told_first k test f sources = told_fault (λ (s : Standing). record { round = k; source = s.source; fault = f }) (find (λ (s : Standing). test s.status) sources)

-- if no source is pending at a round, none of its verdicts is Running
pub all_told : (k : ℕ) (readings : Readings) → list_any (λ (s : Standing). is_pending s.status) (sources_at k readings) ≡ false
    → All IsTold (verdicts_at k readings)
all_told k readings none =
    let m : Standing = main_at k readings in
    let cs : List Standing = channels_at k readings in
    let a1 : Option Verdict = then_some (list_any (λ (s : Standing). is_pending s.status) (sources_at k readings)) Running in
    let a2 : Option Verdict = first_some (map (failed_with_own k) (sources_at k readings)) in
    let a3 : Option Verdict = option_map (λ j. failed k (origin.Channel j) fault.HelloTwice) (repeated_hello (hello_ids readings)) in
    let a4 : Option Verdict = then_some (list_all (λ (s : Standing). is_clean s.status) (sources_at k readings)) Done in
    let a5 : Option Verdict = cond (is_clean m.status) (failed_at_first k is_whole fault.Extra cs) None in
    let a6 : Option Verdict = cond (is_whole m.status) (failed_at_first k is_clean fault.Short cs) None in
    let a7 : Option Verdict = option_map (λ f. failed k origin.Round (fault.Round f)) (refusal_at k readings) in
    All-cons IsTold a1 (a2 ∷ a3 ∷ a4 ∷ a5 ∷ a6 ∷ a7 ∷ []) (told_pending (list_any (λ (s : Standing). is_pending s.status) (sources_at k readings)) none) (
    All-cons IsTold a2 (a3 ∷ a4 ∷ a5 ∷ a6 ∷ a7 ∷ [])
    (λ v e. first_is (λ (x : Verdict). x ≢ Running) (map (failed_with_own k) (sources_at k readings)) v (told_own k (sources_at k readings)) e) (
    All-cons IsTold a3 (a4 ∷ a5 ∷ a6 ∷ a7 ∷ [])
    (told_fault (λ j. record { round = k; source = origin.Channel j; fault = fault.HelloTwice }) (repeated_hello (hello_ids readings))) (
    All-cons IsTold a4 (a5 ∷ a6 ∷ a7 ∷ []) (told_done (list_all (λ (s : Standing). is_clean s.status) (sources_at k readings))) (
    All-cons IsTold a5 (a6 ∷ a7 ∷ []) (told_if (is_clean m.status) (failed_at_first k is_whole fault.Extra cs) (told_first k is_whole fault.Extra cs)) (
    All-cons IsTold a6 (a7 ∷ []) (told_if (is_whole m.status) (failed_at_first k is_clean fault.Short cs) (told_first k is_clean fault.Short cs)) (
    All-cons IsTold a7 [] (told_fault (λ f. record { round = k; source = origin.Round; fault = fault.Round f }) (refusal_at k readings)) (All-nil IsTold)))))))

not_running : (o : Option Verdict) → o ≢ None → IsTold o → unwrap_or o Running ≢ Running
not_running None some told = absurd (some refl)
not_running (Some v) some told = told v refl

-- if no source is pending more isn't needed
pub settled_is_told : (k : ℕ) (readings : Readings) → IsFirstStop readings k → All IsFinal (sources_at k readings) → verdict_at k readings ≢ Running
settled_is_told k readings stop settled =
    let none : list_any (λ (s : Standing). is_pending s.status) (sources_at k readings) ≡ false =
    list_any_none (λ (s : Standing). is_pending s.status) (sources_at k readings) settled in
    not_running (first_some (verdicts_at k readings)) (some_answer k readings stop settled)
    (λ v e. first_is (λ (x : Verdict). x ≢ Running) (verdicts_at k readings) v (all_told k readings none) e)

-- streams that have all ended are judged
pub ended_law : EndedTextsAreJudged
ended_law = λ given uuid texts answer size over is running.
    settled_is_told answer.rounds is.readings is.has_rounds
    (none_pending given uuid texts is.readings answer.rounds size over.0 over.1 is.are_readings is.has_rounds)
    (sym is.has_verdict ∙ running)
