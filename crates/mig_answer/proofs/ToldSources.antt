-- What the sources' verdict at a round says of the answer on streams that have ended.
use Rattle.std.proofs.Common.{ℕ, ◌≡◌, ◌≢◌, ◌+◌, ◌<◌, ◌≤◌, Bool, true, false, cond, ◌&&◌, List, [], ◌∷◌, ◌++◌, length, map, refl, sym, ap, subst, ◌∙◌, inl, inr}
use Rattle.std.proofs.Common.{Option, Some, None, is_none, is_some, find}
use Rattle.std.specs.Prelude.{IsTrue, slice_get, get_or, nat_lt}
use Rattle.std.specs.Bool.{then_some}
use Rattle.std.specs.Option.{option_map, unwrap_or}
use Rattle.std.specs.List.{All, list_all, list_any, enumerate_from, position, position_from, position_or_len}
use Rattle.std.proofs.lemmas.Iterator.Adapters.{position_from-zero}
use Rattle.std.proofs.lemmas.List.Folds.{find_at, list_any_none}
use Rattle.std.proofs.lemmas.Option.{slice_get-get_or}
use Rattle.std.proofs.lemmas.Bool.{cases_Bool, and_parts, cond-true, ltb-true}
use Rattle.std.proofs.lemmas.List.Elements.{All-nil, All-cons, All-head, All-tail}
use Rattle.mig_mem.specs.PageSize.{IsPageSize}
use Rattle.mig_mem.specs.First.{first_some}
use Rattle.mig_mem.proofs.Lists.{map_none, then_none}
use Rattle.mig_assemble.specs.declared.fault.RoundFault.{RoundFault}
use Rattle.mig_stream.specs.Reading.{StreamReading}
use Rattle.mig_load_types.specs.Settings.{channel_of}
use Rattle.mig_load_types.specs.declared.settings.LoadSettings.{LoadSettings}
use Rattle.mig_load_types.specs.declared.fault.Origin.TheVariants as origin
use Rattle.mig_load_types.specs.declared.fault.Fault.{Fault}
use Rattle.mig_load_types.specs.declared.fault.Fault.TheVariants as fault
use Rattle.mig_answer.specs.declared.verdict.Verdict.{Verdict}
use Rattle.mig_answer.specs.declared.verdict.Verdict.TheVariants.{Running, Done}
use Rattle.mig_answer.specs.declared.status.Status.{Status}
use Rattle.mig_answer.specs.declared.status.Status.TheVariants.{Whole, Clean, Bad, Pending}
use Rattle.mig_answer.specs.Status.{main_status, stream_end, is_whole, is_clean, is_pending, fault_of}
use Rattle.mig_answer.specs.Texts.{Text, Readings, AreReadings, ended_text, ended_texts}
use Rattle.mig_answer.specs.Rounds.{refusal_at}
use Rattle.mig_answer.specs.MultiLoad.{Standing, main_standing, main_at, channels_at, sources_at, hello_ids, repeated_hello, passes, IsFirstStop, failed}
use Rattle.mig_answer.specs.MultiLoad.{failed_at_first, failed_with_own, sources_verdicts, verdicts_at, verdict_at}
use Rattle.mig_answer.specs.Told.{standings}
use Rattle.mig_answer.proofs.Statuses.{stream_ends, sound, passes_all, finds_none, first_none, first_is}
use Rattle.mig_answer.proofs.Judged.{IsWhole, IsFinal, reached, has_round, over_settles, whole_at, channels_settled, no_fault, all_clean, all_whole, none_found}
use Rattle.mig_answer.proofs.Judged.{all_told}

-- These say how the sources stand at round k, and which hello comes again.
pub record TellsSources (k : ℕ) (readings : Readings) (main : Status) (channels : List Status) (repeated : Option ℕ) : Type 0 where
  pub has_main : main ≡ main_status k readings.main
  pub has_channels : standings channels ≡ channels_at k readings
  pub has_repeated : repeated ≡ repeated_hello (hello_ids readings)

-- ---- the first of some answers and more

first_more : {X : Type 0} (os more : List (Option X)) (x : X) → first_some os ≡ Some x → first_some (os ++ more) ≡ Some x
first_more [] more x e = absurd cc
first_more (None ∷ os) more x e = first_more os more x e
first_more (Some y ∷ os) more x e = e

-- if the front of a list has no answer, the first one is that of the rest
pub first_behind : {X : Type 0} (os more : List (Option X)) → first_some os ≡ None → first_some (os ++ more) ≡ first_some more
first_behind [] more e = refl
first_behind (None ∷ os) more e = first_behind os more e
first_behind (Some y ∷ os) more e = absurd cc

-- ---- no source is pending after rounds that pass

have_ended : (texts : List (List ℕ)) → All (λ (text : Text). text.ended ≡ true) (map ended_text texts)
have_ended [] = All-nil (λ (text : Text). text.ended ≡ true)
have_ended (text ∷ texts) = All-cons (λ (t : Text). t.ended ≡ true) (ended_text text) (map ended_text texts) refl (have_ended texts)

abbrev HavePassed : ℕ → Readings → Type 0
HavePassed k readings = (j : ℕ) → j < k → IsTrue (passes j readings)

settled_at : (given : LoadSettings) (uuid : List ℕ) (main : List ℕ) (channels : List (List ℕ)) (readings : Readings) (k : ℕ) → IsPageSize given.page_size
    → AreReadings given uuid (ended_texts main channels) readings → HavePassed k readings → All IsFinal (sources_at k readings)
settled_at given uuid main channels readings k size are before =
    let texts : List Text = map ended_text channels in
    let end = stream_end readings.main.state in
    let settled : is_pending end ≡ false =
    ap (λ (r : StreamReading). is_pending (stream_end r.state)) are.has_main.has_end ∙ over_settles are.has_main.found.state true refl in
    let few : k ≤ length readings.main.rounds = has_round k (length readings.main.rounds) end (stream_ends readings.main.state)
    (λ j below. All-head IsWhole (main_at j readings) (channels_at j readings) (whole_at readings j (before j below))) in
    All-cons IsFinal (main_at k readings) (channels_at k readings) (reached k (length readings.main.rounds) end few settled)
    (channels_settled (channel_of given uuid (length texts)) k 0 texts readings.channels size are.has_channels (have_ended channels)
    (λ j below. All-tail IsWhole (main_at j readings) (channels_at j readings) (whole_at readings j (before j below))))

none_pending_at : (given : LoadSettings) (uuid : List ℕ) (main : List ℕ) (channels : List (List ℕ)) (readings : Readings) (k : ℕ) → IsPageSize given.page_size
    → AreReadings given uuid (ended_texts main channels) readings → HavePassed k readings
    → list_any (λ (s : Standing). is_pending s.status) (sources_at k readings) ≡ false
none_pending_at given uuid main channels readings k size are before =
    list_any_none (λ (s : Standing). is_pending s.status) (sources_at k readings) (settled_at given uuid main channels readings k size are before)

-- ---- the verdict where all sources have the round, and where there is none

-- the readings' verdicts of sources at a round
abbrev pub told_at : ℕ → Readings → List (Option Verdict)
told_at k readings = sources_verdicts k (main_at k readings) (channels_at k readings) (repeated_hello (hello_ids readings))

same_told : (k : ℕ) (readings : Readings) (status : Status) (statuses : List Status) (repeated : Option ℕ) → TellsSources k readings status statuses repeated
    → sources_verdicts k (main_standing status) (standings statuses) repeated ≡ told_at k readings
same_told k readings status statuses repeated tells =
    ap (λ (s : Status). sources_verdicts k (main_standing s) (standings statuses) repeated) tells.has_main
    ∙ ap (λ (ss : List Standing). sources_verdicts k (main_at k readings) ss repeated) tells.has_channels
    ∙ ap (λ (o : Option ℕ). sources_verdicts k (main_at k readings) (channels_at k readings) o) tells.has_repeated

is_whole_status : (s : Status) → is_whole s ≡ true → s ≡ Whole
is_whole_status Whole e = refl
is_whole_status Clean e = absurd cc
is_whole_status (Bad f) e = absurd cc
is_whole_status Pending e = absurd cc

-- sources that all have the round, of which none gives a verdict alone
abbrev pub AreWhole : List Standing → Type 0
AreWhole sources = All IsWhole sources

none_own : (k : ℕ) (sources : List Standing) → AreWhole sources → first_some (map (failed_with_own k) sources) ≡ None
none_own k [] all = refl
none_own k (s ∷ sources) all =
    let whole : s.status ≡ Whole = is_whole_status s.status (All-head IsWhole s sources all) in
    let here : failed_with_own k s ≡ None = ap (λ (x : Status). option_map (failed k s.source) (fault_of x)) whole in
    rw (here, none_own k sources (All-tail IsWhole s sources all)) refl

none_clean : (sources : List Standing) → AreWhole sources → All (λ (s : Standing). is_clean s.status ≡ false) sources
none_clean [] all = All-nil (λ (s : Standing). is_clean s.status ≡ false)
none_clean (s ∷ sources) all =
    let whole : s.status ≡ Whole = is_whole_status s.status (All-head IsWhole s sources all) in
    All-cons (λ (x : Standing). is_clean x.status ≡ false) s sources (ap is_clean whole) (none_clean sources (All-tail IsWhole s sources all))

none_waits : (sources : List Standing) → AreWhole sources → All (λ (s : Standing). is_pending s.status ≡ false) sources
none_waits [] all = All-nil (λ (s : Standing). is_pending s.status ≡ false)
none_waits (s ∷ sources) all =
    let whole : s.status ≡ Whole = is_whole_status s.status (All-head IsWhole s sources all) in
    All-cons (λ (x : Standing). is_pending x.status ≡ false) s sources (ap is_pending whole) (none_waits sources (All-tail IsWhole s sources all))

whole_tells_none : (k : ℕ) (m : Standing) (cs : List Standing) (repeated : Option ℕ) → AreWhole (m ∷ cs) → repeated ≡ None
    → first_some (sources_verdicts k m cs repeated) ≡ None
whole_tells_none k m cs repeated all once =
    let whole : m.status ≡ Whole = is_whole_status m.status (All-head IsWhole m cs all) in
    let waits : list_any (λ (s : Standing). is_pending s.status) (m ∷ cs) ≡ false =
    list_any_none (λ (s : Standing). is_pending s.status) (m ∷ cs) (none_waits (m ∷ cs) all) in
    let own : first_some (map (failed_with_own k) (m ∷ cs)) ≡ None = none_own k (m ∷ cs) all in
    let clean : is_clean m.status ≡ false = ap is_clean whole in
    let short : failed_at_first k is_clean fault.Short cs ≡ None =
    ap (option_map (λ (s : Standing). failed k s.source fault.Short))
    (finds_none (λ (s : Standing). is_clean s.status) cs (none_clean cs (All-tail IsWhole m cs all))) in
    rw (waits, own, once, clean, whole, short) refl

-- if there is no verdict, of sources that don't wait, all have the round, and no hello is repeated
pub none_told : (k : ℕ) (m : Standing) (cs : List Standing) (repeated : Option ℕ) → All IsFinal (m ∷ cs)
    → first_some (sources_verdicts k m cs repeated) ≡ None
    → (list_all (λ (s : Standing). is_whole s.status) (m ∷ cs) ≡ true) × (repeated ≡ None)
none_told k m cs repeated settled none =
    let a2 : Option Verdict = first_some (map (failed_with_own k) (m ∷ cs)) in
    let a3 : Option Verdict = option_map (λ j. failed k (origin.Channel j) fault.HelloTwice) repeated in
    let a4 : Option Verdict = then_some (list_all (λ (s : Standing). is_clean s.status) (m ∷ cs)) Done in
    let a5 : Option Verdict = cond (is_clean m.status) (failed_at_first k is_whole fault.Extra cs) None in
    let a6 : Option Verdict = cond (is_whole m.status) (failed_at_first k is_clean fault.Short cs) None in
    let n1 = first_none (then_some (list_any (λ (s : Standing). is_pending s.status) (m ∷ cs)) Running) (a2 ∷ a3 ∷ a4 ∷ a5 ∷ a6 ∷ []) none in
    let n2 = first_none a2 (a3 ∷ a4 ∷ a5 ∷ a6 ∷ []) n1.1 in
    let n3 = first_none a3 (a4 ∷ a5 ∷ a6 ∷ []) n2.1 in
    let n4 = first_none a4 (a5 ∷ a6 ∷ []) n3.1 in
    let n5 = first_none a5 (a6 ∷ []) n4.1 in
    let n6 = first_none a6 [] n5.1 in
    let faultless = no_fault k (m ∷ cs) n2.0 in
    let not_all_clean : list_all (λ (s : Standing). is_clean s.status) (m ∷ cs) ≡ false =
    then_none (list_all (λ (s : Standing). is_clean s.status) (m ∷ cs)) Done n4.0 in
    elim (sound m.status (All-head IsFinal m cs settled) (All-head (λ (s : Standing). fault_of s.status ≡ None) m cs faultless)) [
      | inr clean ↦
          let c : is_clean m.status ≡ true = ap is_clean clean in
          let w : is_whole m.status ≡ false = ap is_whole clean in
          let none_whole = none_found k is_whole fault.Extra cs
          (sym (cond-true (is_clean m.status) (failed_at_first k is_whole fault.Extra cs) None c) ∙ n5.0) in
          let t : list_all (λ (s : Standing). is_clean s.status) (m ∷ cs) ≡ true =
          all_clean (m ∷ cs) settled faultless (All-cons (λ (s : Standing). is_whole s.status ≡ false) m cs w none_whole) in absurd cc
      | inl whole ↦
          let w : is_whole m.status ≡ true = ap is_whole whole in
          let c : is_clean m.status ≡ false = ap is_clean whole in
          let none_clean = none_found k is_clean fault.Short cs
          (sym (cond-true (is_whole m.status) (failed_at_first k is_clean fault.Short cs) None w) ∙ n6.0) in (
            all_whole (m ∷ cs) settled faultless (All-cons (λ (s : Standing). is_clean s.status ≡ false) m cs c none_clean),
            map_none (λ j. failed k (origin.Channel j) fault.HelloTwice) repeated n3.0,
          )
    ]

-- ---- at a round that the rounds before have come to

-- what a round that passes says of its sources
passed_parts : (k : ℕ) (readings : Readings) → passes k readings ≡ true → AreWhole (sources_at k readings) × (repeated_hello (hello_ids readings) ≡ None)
passed_parts k readings t =
    let once : is_none (repeated_hello (hello_ids readings)) ≡ true =
    (and_parts (list_all (λ (s : Standing). is_whole s.status) (sources_at k readings)) (is_none (repeated_hello (hello_ids readings))) (and_parts
    (list_all (λ (s : Standing). is_whole s.status) (sources_at k readings) && is_none (repeated_hello (hello_ids readings)))
    (is_none (refusal_at k readings)) t).0).1 in
    (whole_at readings k t, is_absent (repeated_hello (hello_ids readings)) once)
  where
    is_absent : (o : Option ℕ) → is_none o ≡ true → o ≡ None
    is_absent None e = refl
    is_absent (Some x) e = absurd cc

abbrev pub round_told : ℕ → Readings → List (Option Verdict)
round_told k readings = option_map (λ (f : RoundFault). failed k origin.Round (fault.Round f)) (refusal_at k readings) ∷ []

-- if the sources have a verdict at a round, the round doesn't pass, and this is its verdict
pub told_first_some : (k : ℕ) (readings : Readings) (v : Verdict) → first_some (told_at k readings) ≡ Some v
    → (passes k readings ≡ false) × (first_some (verdicts_at k readings) ≡ Some v)
told_first_some k readings v e =
    let stops : passes k readings ≡ false = elim (cases_Bool (passes k readings)) [
      | inr f ↦ f
      | inl t ↦
          let parts = passed_parts k readings t in
          let none : first_some (told_at k readings) ≡ None =
          whole_tells_none k (main_at k readings) (channels_at k readings) (repeated_hello (hello_ids readings)) parts.0 parts.1 in absurd cc
    ] in
    (stops, first_more (told_at k readings) (round_told k readings) v e)

-- a verdict of the sources is that of the first round that doesn't pass
pub told_stops : (given : LoadSettings) (uuid : List ℕ) (main : List ℕ) (channels : List
    (List ℕ)) (readings : Readings) (k : ℕ) (status : Status) (statuses : List Status)
    (repeated : Option ℕ) (v : Verdict) → IsPageSize given.page_size → AreReadings given uuid (ended_texts main channels) readings
    → ((j : ℕ) → j < k → IsTrue (passes j readings))
    → TellsSources k readings status statuses repeated → first_some (sources_verdicts k (main_standing status) (standings statuses) repeated) ≡ Some v
    → IsFirstStop readings k × (verdict_at k readings ≡ v) × (v ≢ Running)
told_stops given uuid main channels readings k status statuses repeated v size are before tells e =
    let told : first_some (told_at k readings) ≡ Some v = sym (ap first_some (same_told k readings status statuses repeated tells)) ∙ e in
    let found = told_first_some k readings v told in (
      record { before = before; here = found.0 },
      ap (λ (o : Option Verdict). unwrap_or o Running) found.1,
      first_is (λ (x : Verdict). x ≢ Running) (verdicts_at k readings) v
          (all_told k readings (none_pending_at given uuid main channels readings k size are before)) found.1,
    )

-- where they give none, it is that of the round, if it is refused
pub told_refused : (given : LoadSettings) (uuid : List ℕ) (main : List ℕ) (channels : List
    (List ℕ)) (readings : Readings) (k : ℕ) (status : Status) (statuses : List Status)
    (repeated : Option ℕ) (f : RoundFault) → IsPageSize given.page_size
    → AreReadings given uuid (ended_texts main channels) readings → ((j : ℕ) → j < k → IsTrue (passes j readings))
    → TellsSources k readings status statuses repeated → first_some (sources_verdicts k (main_standing status) (standings statuses) repeated) ≡ None
    → refusal_at k readings ≡ Some f
    → IsFirstStop readings k × (verdict_at k readings ≡ failed k origin.Round (fault.Round f))
told_refused given uuid main channels readings k status statuses repeated f size are before tells e refused =
    let told : first_some (told_at k readings) ≡ None = sym (ap first_some (same_told k readings status statuses repeated tells)) ∙ e in
    let all : list_all (λ (s : Standing). is_whole s.status) (sources_at k readings) && is_none (repeated_hello (hello_ids readings)) ≡ true =
    rw (
      (none_told k (main_at k readings) (channels_at k readings) (repeated_hello (hello_ids readings))
          (settled_at given uuid main channels readings k size are before) told).0,
      (none_told k (main_at k readings) (channels_at k readings) (repeated_hello (hello_ids readings))
          (settled_at given uuid main channels readings k size are before) told).1,
    ) refl in
    let stops : passes k readings ≡ false = rw (all, refused) refl in
    let first : first_some (verdicts_at k readings) ≡ Some (failed k origin.Round (fault.Round f)) =
    first_behind (told_at k readings) (round_told k readings) told
    ∙ ap (λ (o : Option RoundFault). first_some (option_map (λ (x : RoundFault). failed k origin.Round (fault.Round x)) o ∷ [])) refused in (
      record { before = before; here = stops },
      ap (λ (o : Option Verdict). unwrap_or o Running) first,
    )

-- and the round passes where it isn't
pub told_passes : (given : LoadSettings) (uuid : List ℕ) (main : List ℕ) (channels : List
    (List ℕ)) (readings : Readings) (k : ℕ) (status : Status) (statuses : List Status)
    (repeated : Option ℕ) → IsPageSize given.page_size → AreReadings given uuid (ended_texts main channels) readings
    → ((j : ℕ) → j < k → IsTrue (passes j readings))
    → TellsSources k readings status statuses repeated → first_some (sources_verdicts k (main_standing status) (standings statuses) repeated) ≡ None
    → refusal_at k readings ≡ None → IsTrue (passes k readings)
told_passes given uuid main channels readings k status statuses repeated size are before tells e lawful =
    let told : first_some (told_at k readings) ≡ None = sym (ap first_some (same_told k readings status statuses repeated tells)) ∙ e in
    let parts = none_told k (main_at k readings) (channels_at k readings) (repeated_hello (hello_ids readings))
    (settled_at given uuid main channels readings k size are before) told in
    rw (parts.0, parts.1, lawful) refl

-- the statuses that represent channels, of which each is whole
whole_statuses : (n : ℕ) (statuses : List Status)
    → AreWhole (map (λ (s : ℕ × Status). record { source = origin.Channel s.0; status = s.1 }) (enumerate_from n statuses))
    → All (λ s. s ≡ Whole) statuses
whole_statuses n [] all = All-nil (λ s. s ≡ Whole)
whole_statuses n (s ∷ statuses) all =
    let rest : List Standing = map (λ (s : ℕ × Status). record { source = origin.Channel s.0; status = s.1 }) (enumerate_from (n + 1) statuses) in
    All-cons (λ x. x ≡ Whole) s statuses
    (is_whole_status s (All-head IsWhole (record { source = origin.Channel n; status = s }) rest all))
    (whole_statuses (n + 1) statuses (All-tail IsWhole (record { source = origin.Channel n; status = s }) rest all))

-- all sources have a round at which they give no verdict
pub told_whole : (given : LoadSettings) (uuid : List ℕ) (main : List ℕ) (channels : List
    (List ℕ)) (readings : Readings) (k : ℕ) (status : Status) (statuses : List Status)
    (repeated : Option ℕ) → IsPageSize given.page_size → AreReadings given uuid (ended_texts main channels) readings
    → ((j : ℕ) → j < k → IsTrue (passes j readings))
    → TellsSources k readings status statuses repeated → first_some (sources_verdicts k (main_standing status) (standings statuses) repeated) ≡ None
    → (status ≡ Whole) × All (λ s. s ≡ Whole) statuses
told_whole given uuid main channels readings k status statuses repeated size are before tells e =
    let told : first_some (told_at k readings) ≡ None = sym (ap first_some (same_told k readings status statuses repeated tells)) ∙ e in
    let parts = none_told k (main_at k readings) (channels_at k readings) (repeated_hello (hello_ids readings))
    (settled_at given uuid main channels readings k size are before) told in
    let all : AreWhole (sources_at k readings) = passes_all (λ (s : Standing). is_whole s.status) (sources_at k readings) parts.0 in
    let main_whole : is_whole status ≡ true = ap is_whole tells.has_main ∙ All-head IsWhole (main_at k readings) (channels_at k readings) all in
    let channels_whole : AreWhole (channels_at k readings) = All-tail IsWhole (main_at k readings) (channels_at k readings) all in (
      is_whole_status status main_whole,
      whole_statuses 0 statuses (subst AreWhole (sym tells.has_channels) channels_whole),
    )

-- a fault of the main stream after rounds that pass is the verdict, whatever the channels bring
pub told_bad_main : (given : LoadSettings) (uuid : List ℕ) (main : List ℕ) (channels : List (List ℕ)) (readings : Readings) (k : ℕ) (f : Fault)
    → IsPageSize given.page_size → AreReadings given uuid (ended_texts main channels) readings → ((j : ℕ) → j < k → IsTrue (passes j readings))
    → main_status k readings.main ≡ Bad f → IsFirstStop readings k × (verdict_at k readings ≡ failed k origin.Main f)
told_bad_main given uuid main channels readings k f size are before bad =
    let waits : list_any (λ (s : Standing). is_pending s.status) (sources_at k readings) ≡ false =
    none_pending_at given uuid main channels readings k size are before in
    let own : failed_with_own k (main_at k readings) ≡ Some (failed k origin.Main f) =
    ap (λ (s : Status). failed_with_own k (main_standing s)) bad in
    let first : first_some (told_at k readings) ≡ Some (failed k origin.Main f) = rw (waits, own) refl in
    let found = told_first_some k readings (failed k origin.Main f) first in (
      record { before = before; here = found.0 },
      ap (λ (o : Option Verdict). unwrap_or o Running) found.1,
    )

-- ---- statuses of channels, each by its place

abbrev pub standings_from : ℕ → List Status → List Standing
standings_from n statuses = map (λ (s : ℕ × Status). record { source = origin.Channel s.0; status = s.1 }) (enumerate_from n statuses)

-- some source passes a test of statuses if some status does
pub any_standings : (test : Status → Bool) (n : ℕ) (statuses : List Status)
    → list_any test statuses ≡ list_any (λ (s : Standing). test s.status) (standings_from n statuses)
any_standings test n [] = refl
any_standings test n (s ∷ statuses) = rw (any_standings test (n + 1) statuses) refl

-- all sources pass a test of statuses if all statuses do
pub all_standings : (test : Status → Bool) (n : ℕ) (statuses : List Status)
    → list_all test statuses ≡ list_all (λ (s : Standing). test s.status) (standings_from n statuses)
all_standings test n [] = refl
all_standings test n (s ∷ statuses) = rw (all_standings test (n + 1) statuses) refl

failed_from : (k : ℕ) (test : Status → Bool) (f : Fault) (n : ℕ) (statuses : List Status)
    → option_map (λ j. failed k (origin.Channel j) f) (position_from test n statuses) ≡ failed_at_first k test f (standings_from n statuses)
failed_from k test f n [] = refl
failed_from k test f n (s ∷ statuses) = elim (cases_Bool (test s)) [
  | inl t ↦ rw t refl
  | inr none ↦ rw none (failed_from k test f (n + 1) statuses)
]

-- the first channel whose status is such
pub failed_standings : (k : ℕ) (test : Status → Bool) (f : Fault) (statuses : List Status)
    → option_map (λ j. failed k (origin.Channel j) f) (position test statuses) ≡ failed_at_first k test f (standings statuses)
failed_standings k test f statuses =
    ap (option_map (λ (j : ℕ). failed k (origin.Channel j) f)) (position_from-zero test statuses) ∙ failed_from k test f 0 statuses

-- the fault of a channel that was found, by its place
abbrev pub own_told : ℕ → Option ℕ → Option Status → Option Verdict
own_told k None found = None
own_told k (Some j) None = None
own_told k (Some j) (Some s) = option_map (failed k (origin.Channel j)) (fault_of s)

abbrev pub is_bad : Status → Bool
is_bad s = is_some (fault_of s)

own_from : (k n : ℕ) (statuses : List Status)
    → own_told k (position_from is_bad n statuses) (find is_bad statuses) ≡ first_some (map (failed_with_own k) (standings_from n statuses))
own_from k n [] = refl
own_from k n (Whole ∷ statuses) = own_from k (n + 1) statuses
own_from k n (Clean ∷ statuses) = own_from k (n + 1) statuses
own_from k n (Bad f ∷ statuses) = refl
own_from k n (Pending ∷ statuses) = own_from k (n + 1) statuses

-- the first channel's fault
pub own_standings : (k : ℕ) (statuses : List Status)
    → own_told k (position is_bad statuses) (slice_get statuses (position_or_len is_bad statuses)) ≡ first_some (map (failed_with_own k) (standings statuses))
own_standings k statuses =
    ap (λ (o : Option Status). own_told k (position is_bad statuses) o) (sym (find_at is_bad statuses))
    ∙ ap (λ (o : Option ℕ). own_told k o (find is_bad statuses)) (position_from-zero is_bad statuses) ∙ own_from k 0 statuses

-- the first answer of one is it
pub or_none : {X : Type 0} (o : Option X) → first_some (o ∷ []) ≡ o
or_none None = refl
or_none (Some x) = refl

-- the fault of the channel at a place
abbrev pub own_found : ℕ → List Status → Option ℕ → Option Verdict
own_found k statuses None = None
own_found k statuses (Some j) = option_map (failed k (origin.Channel j)) (fault_of (get_or statuses j Whole))

-- as it was found
own_at : (k j : ℕ) (statuses : List Status) (below : Bool) → nat_lt j (length statuses) ≡ below
    → own_found k statuses (cond below (Some j) None) ≡ own_told k (cond below (Some j) None) (slice_get statuses j)
own_at k j statuses true e = ap (own_told k (Some j)) (sym (slice_get-get_or statuses j Whole (ltb-true j (length statuses) e)))
own_at k j statuses false e = refl

-- the fault of the first channel that is bad is the first verdict with a channel's own fault
pub own_first : (k : ℕ) (statuses : List Status) → own_found k statuses (position is_bad statuses) ≡ first_some (map (failed_with_own k) (standings statuses))
own_first k statuses =
    let j = position_or_len is_bad statuses in
    own_at k j statuses (nat_lt j (length statuses)) refl ∙ own_standings k statuses
