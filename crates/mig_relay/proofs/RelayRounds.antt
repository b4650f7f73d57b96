-- The rounds of what a relay brings: how each is applied, and how a load ends.
use Rattle.std.proofs.Common.{ℕ, ◌≡◌, ◌+◌, ◌<◌, ◌≤◌, true, List, [], ◌∷◌, ◌++◌, length, take, drop, refl, sym, ap, ◌∙◌, inl, inr, Option, Some, None, arith}
use Rattle.std.proofs.Common.{subst, cond}
use Rattle.std.specs.Prelude.{⊤, ◌^◌, IsTrue, Result, Ok, Err, is_ok}
use Rattle.std.specs.List.{All, AllZip}
use Rattle.std.proofs.lemmas.Bool.{cases_order}
use Rattle.std.proofs.lemmas.List.{length-append, take-append-drop}
use Rattle.std.proofs.lemmas.List.Elements.{All-nil, All-cons}
use Rattle.std.proofs.lemmas.List.Sums.{sum_by-append}
use Rattle.mig_stream.specs.Round.{RoundOfRecords}
use Rattle.mig_stream.specs.declared.item.StreamState.{StreamState}
use Rattle.mig_packet.specs.Packet.{Fields}
use Rattle.mig_packet.specs.declared.packet.Packet.{Packet}
use Rattle.mig_packet.specs.ChannelItems.{ChannelItem}
use Rattle.mig_assemble.specs.Judging.{refusal}
use Rattle.mig_assemble.specs.Target.{LoadTarget, pages_of_round, after_round}
use Rattle.mig_load_types.specs.Settings.{channel_of}
use Rattle.mig_load_types.specs.declared.fault.Origin.TheVariants as origin
use Rattle.mig_load_types.specs.declared.fault.Fault.{Fault}
use Rattle.mig_load_types.specs.declared.fault.Fault.TheVariants as fault
use Rattle.mig_load_types.specs.declared.fault.LoadFault.{LoadFault}
use Rattle.mig_answer.specs.declared.status.Status.{Status}
use Rattle.mig_answer.specs.declared.status.Status.TheVariants.{Whole, Bad}
use Rattle.mig_answer.specs.declared.verdict.Verdict.{Verdict}
use Rattle.mig_answer.specs.declared.verdict.Verdict.TheVariants.{Done, Failed}
use Rattle.mig_single_load.specs.SingleLoad.{no_memory_at}
use Rattle.mig_answer.specs.Status.{main_status, stream_end}
use Rattle.mig_answer.specs.Texts.{ended_text}
use Rattle.mig_answer.specs.Rounds.{packets_at, refusal_at}
use Rattle.mig_answer.specs.MultiLoad.{passes, as_verdict}
use Rattle.mig_answer.specs.Received.{round_count, rounds_in, ends_round}
use Rattle.mig_relay.specs.RelayItems.{QueueEnd}
use Rattle.mig_relay.specs.Relayed.{Continues, IsAtRound, AreAtRound, Load, Loading, ToldAt, IsAnswered, HaveRounds, HasEnded, EndsAt, ComesToRound}
use Rattle.mig_answer.specs.Putting.{HasLoaded, IsRoundError}
use Rattle.mig_answer.proofs.Statuses.{status_whole, status_end}
use Rattle.mig_answer.proofs.Putting.{size_of_table, refusal_of_round, round_is_put}
use Rattle.mig_answer.proofs.Received.{counted_law}
use Rattle.mig_relay.proofs.Relays.{of_relay, sizes_are}
use Rattle.mig_relay.proofs.GoingThrough.{all_go_on}
use Rattle.mig_answer.proofs.ToldSources.{told_bad_main}

-- ---- what was taken

-- a channel that is at round k has the rounds before it, and goes on to have them
front_rounds : (k at : ℕ) (p q : QueueEnd) → IsAtRound k at p.passed → Continues p q → k ≤ round_count q.passed
front_rounds k at p q is continues =
    let front : List ChannelItem = take at p.passed in
    let split : rounds_in p.passed ≡ is.rounds ++ rounds_in (drop at p.passed) =
    ap rounds_in (sym (take-append-drop at p.passed)) ∙ is.is_at.has_rounds (drop at p.passed) in
    let here : k ≤ round_count p.passed =
    omega (
      arith,
      is.has_count,
      counted_law p.passed,
      ap (λ (l : List (List Fields)). length l) split,
      length-append is.rounds (rounds_in (drop at p.passed)),
    ) in
    omega (arith, here, ap round_count continues.begins.has_rest, sum_by-append (λ piece. cond (ends_round piece) 1 0) p.passed continues.begins.rest)

have_rounds : (k : ℕ) (places : List ℕ) (ends now : List QueueEnd) → AreAtRound k places ends → AllZip Continues ends now → HaveRounds k now
have_rounds k [] [] [] are zip = All-nil (λ (p : QueueEnd). k ≤ round_count p.passed)
have_rounds k [] [] (q ∷ qs) are zip = absurd zip
have_rounds k [] (p ∷ ps) now are zip = absurd are
have_rounds k (at ∷ places) [] now are zip = absurd are
have_rounds k (at ∷ places) (p ∷ ps) [] are zip = absurd zip
have_rounds k (at ∷ places) (p ∷ ps) (q ∷ qs) are zip =
    All-cons (λ (p : QueueEnd). k ≤ round_count p.passed) q qs (front_rounds k at p q are.0 zip.0) (have_rounds k places ps qs are.1 zip.1)

-- ---- how a load ends

-- if the sources give a verdict at round k, the load ends there with the result that says so
pub ends_told : (l : Load) (k : ℕ) (main : Status) (verdict : Verdict) (result : Result ⊤ LoadFault) (places places_now : List ℕ)
    (ends now : List QueueEnd) (packets : List Fields)
    → Loading l k places ends → AllZip Continues ends now → ToldAt l k main (Some verdict) places_now now packets
    → as_verdict result ≡ verdict → HasEnded l k result now
ends_told l k main verdict result places places_now ends now packets loading zip told is =
    let stops = told.stops verdict refl in
    record {
      is_answered = inl (stops.0, stops.1 ∙ sym is);
      have_rounds = have_rounds k places ends now loading.are_at zip;
      through = λ ok. told.through (ap (λ (v : Verdict). Some v) (sym is ∙ done_of result ok));
    }
  where
    done_of : (r : Result ⊤ LoadFault) → is_ok r ≡ true → as_verdict r ≡ Done
    done_of (Ok x) e = refl
    done_of (Err f) e = absurd cc

-- a load that has reached round k, and is answered by a fault there, ends with this fault
pub ends_bad : (l : Load) (k : ℕ) (f : LoadFault) (places : List ℕ) (ends now : List QueueEnd) → Loading l k places ends
    → AllZip Continues ends now → IsAnswered l k (Err f) → HasEnded l k (Err f) now
ends_bad l k f places ends now loading zip answered = record {
  is_answered = answered;
  have_rounds = have_rounds k places ends now loading.are_at zip;
  through = λ ok. absurd cc;
}

-- a load that has reached round k may end there with NoMemory
pub ends_without : (l : Load) (k : ℕ) (result : Result ⊤ LoadFault) (places : List ℕ) (ends now : List QueueEnd)
    → Loading l k places ends → AllZip Continues ends now → result ≡ no_memory_at k
    → HasEnded l k result now
ends_without l k result places ends now loading zip is =
    subst (λ (r : Result ⊤ LoadFault). HasEnded l k r now) (sym is)
    (ends_bad l k (record { round = k; source = origin.Round; fault = fault.NoMemory }) places ends now loading zip (inr refl))

-- ---- a round is applied

-- the page size of the table
pub size_is : (l : Load) (k : ℕ) (target : LoadTarget) (places : List ℕ) (ends : List QueueEnd) → Loading l k places ends
    → HasLoaded k l.readings target → target.memory.table.page_size ≡ l.given.page_size
size_is l k target places ends loading has =
    size_of_table l.given k (ended_text l.main) l.readings target loading.is_page_size loading.are_readings.has_main has

-- packets of the page size that the channels have are of the memory's page size
pub sizes_of_packets : (l : Load) (k : ℕ) (target : LoadTarget) (places : List ℕ) (ends : List QueueEnd) (packets : List Packet)
    → Loading l k places ends → HasLoaded k l.readings target
    → ((page_size : ℕ) → All (λ p. p.source.page_size ≡ page_size) ends → All (λ packet. packet.page_size ≡ page_size) packets)
    → All (λ packet. packet.page_size ≡ target.memory.table.page_size) packets
sizes_of_packets l k target places ends packets loading has sizes =
    subst (λ (n : ℕ). All (λ (packet : Packet). packet.page_size ≡ n) packets) (sym (size_is l k target places ends loading has))
    (sizes l.given.page_size (sizes_are (channel_of l.given l.uuid (length l.texts)) l.texts ends loading.is_relay.has_sources))

-- why it is refused
pub refusal_is : (l : Load) (target : LoadTarget) (places : List ℕ) (ends : List
    QueueEnd) (round : RoundOfRecords) (packets : List Fields) → ComesToRound l target places ends round
    → packets ≡ packets_at l.given.page_size target.rounds l.readings
    → refusal_at target.rounds l.readings ≡ refusal target.memory.table target.base (pages_of_round round) packets
refusal_is l target places ends round packets comes are =
    refusal_of_round l.given.page_size l.readings target round packets
    (size_is l target.rounds target places ends comes.loading comes.has_loaded) comes.has_loaded comes.fits comes.is_round are

-- the target after the round to which a load has come has loaded one round more
pub round_goes_in : (l : Load) (target new : LoadTarget) (places : List ℕ) (ends : List
    QueueEnd) (round : RoundOfRecords) (packets : List Fields) → ComesToRound l target places ends round
    → packets ≡ packets_at l.given.page_size target.rounds l.readings → new ≡ after_round target round packets → HasLoaded (target.rounds + 1) l.readings new
round_goes_in l target new places ends round packets comes are is =
    round_is_put l.given.page_size l.readings target new round packets
    (size_is l target.rounds target places ends comes.loading comes.has_loaded) comes.has_loaded comes.fits comes.is_round are is

-- the main stream has the round
pub main_whole : (l : Load) (k : ℕ) → k < length l.readings.main.rounds → Whole ≡ main_status k l.readings.main
main_whole l k below = sym (status_whole k (length l.readings.main.rounds) (stream_end l.readings.main.state) below)

-- a round that isn't lawful ends the load
pub ends_refused : (l : Load) (target : LoadTarget) (f : LoadFault) (places places_now : List ℕ)
    (ends now : List QueueEnd) (round : RoundOfRecords) (packets : List Fields)
    → ComesToRound l target places ends round → AllZip Continues ends now → ToldAt l target.rounds Whole None places_now now packets
    → IsRoundError target.rounds (refusal target.memory.table target.base (pages_of_round round) packets) (Err f) → HasEnded l target.rounds (Err f) now
ends_refused l target f places places_now ends now round packets comes zip told refused = elim refused [
  | inl without ↦ ends_without l target.rounds (Err f) places ends now comes.loading zip without
  | inr w ↦
      let stops = told.refused refl w.0 (refusal_is l target places ends round packets comes (told.has_packets refl) ∙ w.1) in
      ends_bad l target.rounds f places ends now comes.loading zip (inl (stops.0, stops.1 ∙ ap (λ (x : LoadFault). Failed x) (sym w.2)))
]

-- a lawful one is in the memory, and the next one is due
pub goes_in : (l : Load) (target new : LoadTarget) (places places_now : List ℕ) (ends now : List QueueEnd) (round : RoundOfRecords) (packets : List Fields)
    → ComesToRound l target places ends round → AllZip Continues ends now → ToldAt l target.rounds Whole None places_now now packets
    → refusal target.memory.table target.base (pages_of_round round) packets ≡ None → new ≡ after_round target round packets → new.base ≤ 2 ^ 63
    → Loading l (target.rounds + 1) places_now now × HasLoaded (target.rounds + 1) l.readings new × (new.base ≤ 2 ^ 63)
goes_in l target new places places_now ends now round packets comes zip told lawful is few =
    let k : ℕ = target.rounds in
    let loading = comes.loading in
    let here : IsTrue (passes k l.readings) = told.passes refl (refusal_is l target places ends round packets comes (told.has_packets refl) ∙ lawful) in (
      record {
        is_page_size = loading.is_page_size;
        is_relay = of_relay l.given.page_size l.given.waiting l.uuid l.texts ends now loading.is_relay zip;
        are_readings = loading.are_readings;
        have_passed = λ j below. elim (cases_order j k) [
          | inl same ↦ subst (λ i. IsTrue (passes i l.readings)) (sym same) here
          | inr ne ↦ elim ne [ inl lt ↦ loading.have_passed j lt | inr gt ↦ absurd (omega (arith, below, gt)) ]
        ];
        are_at = told.goes_on refl;
      },
      round_goes_in l target new places ends round packets comes (told.has_packets refl) is,
      few,
    )

-- what is found at the round that has come
pub told_now : (l : Load) (n : ℕ) (target : LoadTarget) (told found : Option Verdict) (places places_now : List ℕ)
    (ends now : List QueueEnd) (round : RoundOfRecords) (packets : List Fields)
    → n ≡ target.rounds → told ≡ found → ComesToRound l target places ends round
    → (Loading l n places ends → Whole ≡ main_status n l.readings.main → ToldAt l n Whole told places_now now packets)
    → ToldAt l target.rounds Whole found places_now now packets
told_now l n target told found places places_now ends now round packets e is comes tells =
    subst (λ (o : Option Verdict). ToldAt l target.rounds Whole o places_now now packets) is
    (subst (λ (m : ℕ). Loading l m places ends → Whole ≡ main_status m l.readings.main → ToldAt l m Whole told places_now now packets) e tells comes.loading
    (main_whole l target.rounds comes.has_round))

-- ---- after all rounds of the main stream

-- how it stands there
pub main_ends : (l : Load) (k : ℕ) (state : StreamState) (main : Status) (places : List ℕ) (ends : List QueueEnd)
    → EndsAt l k state places ends → main ≡ stream_end state
    → main ≡ main_status k l.readings.main
main_ends l k state main places ends at is =
    is ∙ ap stream_end (sym at.has_state) ∙ sym (status_end k (length l.readings.main.rounds) (stream_end l.readings.main.state) (sym at.is_last))

-- if the main stream ends at round k with a fault, the load ends with this fault, of Main
pub ends_at_fault : (l : Load) (k : ℕ) (state : StreamState) (main : Status) (f : Fault) (places : List ℕ) (ends : List QueueEnd)
    → EndsAt l k state places ends → main ≡ stream_end state
    → main ≡ Bad f → HasEnded l k (Err (record { round = k; source = origin.Main; fault = f })) ends
ends_at_fault l k state main f places ends at is bad =
    let loading = at.loading in
    let stops = told_bad_main l.given l.uuid l.main l.texts l.readings k f loading.is_page_size loading.are_readings loading.have_passed
    (sym (main_ends l k state main places ends at is) ∙ bad) in
    ends_bad l k (record { round = k; source = origin.Main; fault = f }) places ends ends loading (all_go_on ends) (inl (stops.0, stops.1))
