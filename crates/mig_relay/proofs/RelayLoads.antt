-- A load of what a relay brings: what is found at a round, and the rounds that are applied.
use Rattle.std.proofs.Common.{ℕ, zero, suc, ◌≡◌, ◌≢◌, ◌+◌, Bool, true, false, cond, ◌&&◌, List, [], ◌∷◌, ◌++◌, length, map, refl, sym, ap, ◌∙◌, inl, inr}
use Rattle.std.proofs.Common.{Option, Some, None, is_none, arith, subst, find}
use Rattle.std.specs.Prelude.{◌==◌}
use Rattle.std.specs.Bool.{then_some}
use Rattle.std.specs.Option.{option_map}
use Rattle.std.specs.List.{All, AllZip, list_all, list_any, enumerate_from}
use Rattle.std.proofs.lemmas.Bool.{cases_Bool, and_parts, cond-false, ne_eqb}
use Rattle.std.proofs.lemmas.List.{append-nil}
use Rattle.std.proofs.lemmas.List.Elements.{All-nil, All-cons, All-head, All-tail}
use Rattle.mig_mem.specs.First.{first_some}
use Rattle.mig_packet.specs.Packet.{Fields}
use Rattle.mig_packet.specs.ChannelItems.{ChannelItem, AreItems}
use Rattle.mig_packet.specs.Reading.{Settings}
use Rattle.mig_load_types.specs.Settings.{channel_of}
use Rattle.mig_load_types.specs.declared.fault.Origin.TheVariants as origin
use Rattle.mig_load_types.specs.declared.fault.Fault.{Fault}
use Rattle.mig_load_types.specs.declared.fault.Fault.TheVariants as fault
use Rattle.mig_load_types.specs.declared.fault.LoadFault.{LoadFault}
use Rattle.mig_relay.specs.declared.log.ChannelText.{ChannelText}
use Rattle.mig_answer.specs.declared.verdict.Verdict.{Verdict}
use Rattle.mig_answer.specs.declared.verdict.Verdict.TheVariants.{Running, Done, Failed}
use Rattle.mig_answer.specs.declared.status.Status.{Status}
use Rattle.mig_answer.specs.declared.status.Status.TheVariants.{Whole}
use Rattle.mig_answer.specs.Status.{main_status, is_whole, is_clean, is_pending, fault_of}
use Rattle.mig_answer.specs.Rounds.{refusal_at}
use Rattle.mig_answer.specs.MultiLoad.{Standing, main_standing, sources_at, hello_ids, repeated_hello, passes, sources_verdicts, failed, failed_at_first}
use Rattle.mig_answer.specs.MultiLoad.{failed_with_own}
use Rattle.mig_answer.specs.Received.{round_count, hello_in, end_in, status_in, IsEnough, TellsAllChannels}
use Rattle.mig_relay.specs.RelayItems.{given, with_settings, QueueEnd, IsThrough}
use Rattle.mig_relay.specs.Relayed.{received_of, Continues, HasEnough, HaveGone, repeated_at, Load, Loading, ToldAt}
use Rattle.mig_answer.specs.Told.{standings}
use Rattle.mig_answer.proofs.Statuses.{status_whole, first_is}
use Rattle.mig_answer.proofs.ReceivedTogether.{together_law}
use Rattle.mig_relay.proofs.Relays.{source_of, of_relay}
use Rattle.mig_answer.proofs.ToldSources.{TellsSources, told_stops, told_refused, told_passes, told_whole}

-- ---- what was received says

-- a channel of which a round was processed has enough items
enough : (k : ℕ) (p : QueueEnd) (read : Settings) (text : List ℕ) → p.source ≡ with_settings read text → HasEnough k p → IsEnough read k text p.passed
enough k p read text is told = elim told.1 [
  | inl more ↦ record {
    items = p.passed ++ told.0.0;
    are_items = subst (λ (s : ChannelText). AreItems (given s) s.text (p.passed ++ told.0.0)) is told.0.1;
    is_front = record { rest = told.0.0; has_rest = refl };
    settles = inl more;
  }
  | inr all ↦ record {
    items = p.passed;
    are_items = subst (λ (s : ChannelText). AreItems (given s) s.text p.passed) is all;
    is_front = record { rest = []; has_rest = sym (append-nil p.passed) };
    settles = inr refl;
  }
]

all_enough : (k : ℕ) (read : Settings) (texts : List (List ℕ)) (ends : List QueueEnd)
    → map source_of ends ≡ map (with_settings read) texts → All (HasEnough k) ends
    → AllZip (IsEnough read k) texts (received_of ends)
all_enough k read [] [] e told = tt
all_enough k read [] (p ∷ ends) e told = absurd cc
all_enough k read (text ∷ texts) [] e told = absurd cc
all_enough k read (text ∷ texts) (p ∷ ends) e told =
    let here : p.source ≡ with_settings read text = cc in
    let there : map source_of ends ≡ map (with_settings read) texts = cc in (
      enough k p read text here (All-head (HasEnough k) p ends told),
      all_enough k read texts ends there (All-tail (HasEnough k) p ends told),
    )

tells_channels : (l : Load) (k : ℕ) (places places_now : List ℕ)
    (ends ends_now : List QueueEnd) (statuses : List Status) (packets : List Fields) → Loading l k places ends
    → AllZip Continues ends ends_now → HaveGone k places_now ends_now statuses packets → TellsAllChannels l.given.page_size k (received_of ends_now) l.readings
tells_channels l k places places_now ends ends_now statuses packets loading zip gone =
    together_law l.given l.uuid k l.main l.texts (received_of ends_now) l.readings loading.is_page_size loading.are_readings
    (all_enough k (channel_of l.given l.uuid (length l.texts)) l.texts ends_now
    (of_relay l.given.page_size l.given.waiting l.uuid l.texts ends ends_now loading.is_relay zip).has_sources gone.are_told)

abbrev told_standing : ℕ × Status → Standing
told_standing s = record { source = origin.Channel s.0; status = s.1 }

abbrev received_standing : ℕ → ℕ × List ChannelItem → Standing
received_standing k c = record { source = origin.Channel c.0; status = status_in k c.1 }

same_standings : (k from : ℕ) (received : List (List ChannelItem))
    → map told_standing (enumerate_from from (map (status_in k) received)) ≡ map (received_standing k) (enumerate_from from received)
same_standings k from [] = refl
same_standings k from (items ∷ received) =
    ap (λ (l : List Standing). told_standing (from, status_in k items) ∷ l) (same_standings k (from + 1) received)

-- after the first round no hello is repeated
no_repeat : (l : Load) (k : ℕ) (places : List ℕ) (ends : List QueueEnd) → Loading l (suc k) places ends → repeated_hello (hello_ids l.readings) ≡ None
no_repeat l k places ends loading =
    let t : passes 0 l.readings ≡ true = loading.have_passed 0 (omega arith) in
    let all = list_all (λ (s : Standing). is_whole s.status) (sources_at 0 l.readings) in
    let none = is_none (repeated_hello (hello_ids l.readings)) in
    is_none_of (repeated_hello (hello_ids l.readings)) (and_parts all none (and_parts (all && none) (is_none (refusal_at 0 l.readings)) t).0).1
  where
    is_none_of : (o : Option ℕ) → is_none o ≡ true → o ≡ None
    is_none_of None e = refl
    is_none_of (Some x) e = absurd cc

repeated_is : (l : Load) (k : ℕ) (places : List ℕ) (ends ends_now : List QueueEnd) → Loading l k places ends
    → map hello_in (received_of ends_now) ≡ hello_ids l.readings
    → repeated_at k ends_now ≡ repeated_hello (hello_ids l.readings)
repeated_is l zero places ends ends_now loading same = ap repeated_hello same
repeated_is l (suc k) places ends ends_now loading same =
    cond-false (suc k == 0) (repeated_hello (map hello_in (received_of ends_now))) None (ne_eqb (suc k) 0 (λ e. omega (arith, e)))
    ∙ sym (no_repeat l k places ends loading)

-- once round k of all channels was processed, the statuses, and the hello that repeats an id,
-- are those of the readings
pub tells_sources : (l : Load) (k : ℕ) (places places_now : List ℕ)
    (ends ends_now : List QueueEnd) (main : Status) (statuses : List Status) (packets : List Fields) → Loading l k places ends
    → AllZip Continues ends ends_now → HaveGone k places_now ends_now statuses packets → main ≡ main_status k l.readings.main
    → TellsSources k l.readings main statuses (repeated_at k ends_now)
tells_sources l k places places_now ends ends_now main statuses packets loading zip gone is =
    let tells = tells_channels l k places places_now ends ends_now statuses packets loading zip gone in
    record {
      has_main = is;
      has_channels = ap standings gone.has_statuses ∙ same_standings k 0 (received_of ends_now) ∙ tells.has_channels;
      has_repeated = repeated_is l k places ends ends_now loading tells.has_hellos;
    }

-- ---- the verdict that is returned

-- a verdict other than done
abbrev IsOther : Option Verdict → Type 0
IsOther o = (v : Verdict) → o ≡ Some v → v ≢ Done

other_running : (b : Bool) → IsOther (then_some b Running)
other_running true v e d = let r : v ≡ Running = cc in absurd cc
other_running false v e d = absurd cc

other_failed : {X : Type 0} (f : X → LoadFault) (o : Option X) → IsOther (option_map (λ x. Failed (f x)) o)
other_failed f None v e d = absurd cc
other_failed f (Some x) v e d = let r : v ≡ Failed (f x) = cc in absurd cc

other_done : (b : Bool) → b ≡ false → IsOther (then_some b Done)
other_done true is v e d = absurd cc
other_done false is v e d = absurd cc

other_if : (b : Bool) (o : Option Verdict) → IsOther o → IsOther (cond b o None)
other_if true o other = other
other_if false o other = λ v e d. absurd cc

other_own : (k : ℕ) (sources : List Standing) → All IsOther (map (failed_with_own k) sources)
other_own k [] = All-nil IsOther
other_own k (s ∷ sources) =
    All-cons IsOther (failed_with_own k s) (map (failed_with_own k) sources)
    (other_failed (λ f. record { round = k; source = s.source; fault = f }) (fault_of s.status)) (other_own k sources)

other_first : (k : ℕ) (test : Status → Bool) (f : Fault) (sources : List Standing) → IsOther (failed_at_first k test f sources)
other_first k test f sources = other_failed (λ (s : Standing). record { round = k; source = s.source; fault = f })
    (find (λ (s : Standing). test s.status) sources)

-- it is done only where all sources are clean
done_is_clean : (k : ℕ) (m : Standing) (cs : List Standing) (repeated : Option ℕ) → first_some (sources_verdicts k m cs repeated) ≡ Some Done
    → list_all (λ (s : Standing). is_clean s.status) (m ∷ cs) ≡ true
done_is_clean k m cs repeated done = elim (cases_Bool (list_all (λ (s : Standing). is_clean s.status) (m ∷ cs))) [
  | inl t ↦ t
  | inr f ↦
      let a1 : Option Verdict = then_some (list_any (λ (s : Standing). is_pending s.status) (m ∷ cs)) Running in
      let a2 : Option Verdict = first_some (map (failed_with_own k) (m ∷ cs)) in
      let a3 : Option Verdict = option_map (λ j. failed k (origin.Channel j) fault.HelloTwice) repeated in
      let a4 : Option Verdict = then_some (list_all (λ (s : Standing). is_clean s.status) (m ∷ cs)) Done in
      let a5 : Option Verdict = cond (is_clean m.status) (failed_at_first k is_whole fault.Extra cs) None in
      let a6 : Option Verdict = cond (is_whole m.status) (failed_at_first k is_clean fault.Short cs) None in
      let all : All IsOther (sources_verdicts k m cs repeated) =
      All-cons IsOther a1 (a2 ∷ a3 ∷ a4 ∷ a5 ∷ a6 ∷ []) (other_running (list_any (λ (s : Standing). is_pending s.status) (m ∷ cs))) (
      All-cons IsOther a2 (a3 ∷ a4 ∷ a5 ∷ a6 ∷ []) (λ v e. first_is (λ (x : Verdict). x ≢ Done) (map (failed_with_own k) (m ∷ cs)) v (other_own k (m ∷ cs)) e) (
      All-cons IsOther a3 (a4 ∷ a5 ∷ a6 ∷ []) (other_failed (λ j. record { round = k; source = origin.Channel j; fault = fault.HelloTwice }) repeated) (
      All-cons IsOther a4 (a5 ∷ a6 ∷ []) (other_done (list_all (λ (s : Standing). is_clean s.status) (m ∷ cs)) f) (
      All-cons IsOther a5 (a6 ∷ []) (other_if (is_clean m.status) (failed_at_first k is_whole fault.Extra cs) (other_first k is_whole fault.Extra cs)) (
      All-cons IsOther a6 [] (other_if (is_whole m.status) (failed_at_first k is_clean fault.Short cs)
      (other_first k is_clean fault.Short cs)) (All-nil IsOther)))))) in
      absurd (first_is (λ (x : Verdict). x ≢ Done) (sources_verdicts k m cs repeated) Done all done refl)
]

-- if a channel is clean its stop was taken
clean_is_through : (k : ℕ) (p : QueueEnd) → HasEnough k p → is_clean (status_in k p.passed) ≡ true → IsThrough p
clean_is_through k p told clean = elim told.1 [
  | inl more ↦ let whole = ap is_clean (status_whole k (round_count p.passed) (end_in p.passed) more) in absurd cc
  | inr all ↦ all
]

-- if all are, all were
all_through : (k from : ℕ) (ends : List QueueEnd) → All (HasEnough k) ends
    → list_all (λ (s : Standing). is_clean s.status)
    (map told_standing (enumerate_from from (map (status_in k) (received_of ends)))) ≡ true → All IsThrough ends
all_through k from [] told clean = All-nil IsThrough
all_through k from (p ∷ ends) told clean =
    let rest : List Standing = map told_standing (enumerate_from (from + 1) (map (status_in k) (received_of ends))) in
    let parts = and_parts (is_clean (status_in k p.passed)) (list_all (λ (s : Standing). is_clean s.status) rest) clean in
    All-cons IsThrough p ends (clean_is_through k p (All-head (HasEnough k) p ends told) parts.0)
    (all_through k (from + 1) ends (All-tail (HasEnough k) p ends told) parts.1)

-- once round k of all channels was processed, the first verdict of the statuses is the load's, or
-- all sources have the round
pub is_told_at : (l : Load) (k : ℕ) (places places_now : List ℕ)
    (ends ends_now : List QueueEnd) (main : Status) (statuses : List Status) (packets : List Fields) (told : Option Verdict)
    → Loading l k places ends → AllZip Continues ends ends_now → HaveGone k places_now ends_now statuses packets → main ≡ main_status k l.readings.main
    → told ≡ first_some (sources_verdicts k (main_standing main) (standings statuses) (repeated_at k ends_now))
    → ToldAt l k main told places_now ends_now packets
is_told_at l k places places_now ends ends_now main statuses packets told loading zip gone is e =
    let tells = tells_sources l k places places_now ends ends_now main statuses packets loading zip gone is in
    let size = loading.is_page_size in
    let are = loading.are_readings in
    let before = loading.have_passed in
    let repeated = repeated_at k ends_now in
    let whole : told ≡ None → (main ≡ Whole) × All (λ s. s ≡ Whole) statuses = λ none.
    told_whole l.given l.uuid l.main l.texts l.readings k main statuses repeated size are before tells (sym e ∙ none) in
    record {
      stops = λ verdict some. told_stops l.given l.uuid l.main l.texts l.readings k main statuses repeated verdict size are before tells (sym e ∙ some);
      through = λ done.
          let clean = done_is_clean k (main_standing main) (standings statuses) repeated (sym e ∙ done) in
          let channels = (and_parts (is_clean main) (list_all (λ (s : Standing). is_clean s.status) (standings statuses)) clean).1 in
          all_through k 0 ends_now gone.are_told (subst
          (λ (ss : List Status). list_all (λ (s : Standing). is_clean s.status) (standings ss) ≡ true) gone.has_statuses channels);
      has_main = λ none. (whole none).0;
      has_packets = λ none. gone.has_packets (whole none).1
          ∙ (tells_channels l k places places_now ends ends_now statuses packets loading zip gone).has_packets k (omega arith);
      goes_on = λ none. gone.goes_on (whole none).1;
      passes = λ none lawful. told_passes l.given l.uuid l.main l.texts l.readings k main statuses repeated size are before tells (sym e ∙ none) lawful;
      refused = λ none why refused. told_refused l.given l.uuid l.main l.texts l.readings k main statuses repeated why size are
          before tells (sym e ∙ none) refused;
    }
