-- A round that all sources have is applied, or ends the load.
use Rattle.std.proofs.Common.{ℕ, ◌≡◌, ◌≤◌, ◌+◌, List, None, map, sym, subst}
use Rattle.std.specs.Prelude.{◌^◌, Err}
use Rattle.mig_stream.specs.Reader.{Reader, Stands}
use Rattle.mig_stream.specs.Round.{RoundOfRecords}
use Rattle.mig_packet.specs.declared.packet.Packet.{Packet}
use Rattle.mig_packet.specs.Lent.{fields}
use Rattle.mig_assemble.specs.Judging.{refusal}
use Rattle.mig_assemble.specs.Target.{LoadTarget, pages_of_round, after_round}
use Rattle.mig_load_types.specs.Settings.{main_of}
use Rattle.mig_load_types.specs.declared.fault.LoadFault.{LoadFault}
use Rattle.mig_answer.specs.Putting.{IsRoundError, HasLoaded}
use Rattle.mig_relay.specs.RelayItems.{QueueEnd}
use Rattle.mig_relay.specs.Relayed.{Load, Loading, Ready, Ends, Goes}
use Rattle.mig_relay.proofs.MainStream.{main_so_far}
use Rattle.mig_relay.proofs.RelayRounds.{ends_refused, goes_in}

-- the next round is due
pub ready_put : (l : Load) (reader : Reader) (target new : LoadTarget) (places : List ℕ) (ends : List QueueEnd) (round : RoundOfRecords) (packets : List Packet)
    → Ready l reader target places ends round packets → refusal target.memory.table target.base (pages_of_round round) (map fields packets) ≡ None
    → new ≡ after_round target round (map fields packets) → new.base ≤ 2 ^ 63 → Goes l reader new places ends
ready_put l reader target new places ends round packets ready lawful is few =
    let judged = goes_in l target new ready.places_before places ready.ends_before ends round
    (map fields packets) ready.comes ready.continues ready.told lawful is few in
    let count : new.rounds ≡ target.rounds + 1 = judged.1.has_rounds in
    record {
      stands = subst (λ n. Stands (main_of l.given) (main_so_far l.main n) reader) (sym count) ready.stands;
      loading = subst (λ n. Loading l n places ends) (sym count) judged.0;
      has_loaded = subst (λ n. HasLoaded n l.readings new) (sym count) judged.1;
      few_packets = judged.2;
      is_short = ready.is_short;
    }

-- its fault is the load's, or an allocation was refused
pub ready_refused : (l : Load) (reader : Reader)
    (target new : LoadTarget) (f : LoadFault) (places : List ℕ) (ends : List QueueEnd) (round : RoundOfRecords) (packets : List Packet)
    → Ready l reader target places ends round packets → new ≡ target
    → IsRoundError target.rounds (refusal target.memory.table target.base (pages_of_round round) (map fields packets)) (Err f) → Ends l new (Err f) ends
ready_refused l reader target new f places ends round packets ready same refused =
    subst (λ (t : LoadTarget). Ends l t (Err f) ends) (sym same) (record {
      are_readings = ready.comes.loading.are_readings;
      have_passed = ready.comes.loading.have_passed;
      has_loaded = ready.comes.has_loaded;
      has_ended = ends_refused l target f ready.places_before places ready.ends_before ends round
          (map fields packets) ready.comes ready.continues ready.told refused;
    })
