use Rattle.std.proofs.Common.{map, subst}
use Rattle.std.specs.Prelude.{Result, ⊤}
use Rattle.mig_packet.specs.Lent.{fields}
use Rattle.mig_assemble.specs.Judging.{refusal}
use Rattle.mig_assemble.specs.Target.{pages_of_round}
use Rattle.mig_load_types.specs.declared.fault.LoadFault.{LoadFault}
use Rattle.mig_answer.specs.Putting.{IsRoundError}
use Rattle.mig_relay.proofs.GoingThrough.{all_go_on, all_go_further}
use Rattle.mig_relay.proofs.MainStream.{ends_here}
use Rattle.mig_relay.proofs.ReadyRounds.{ready_put, ready_refused}
use Rattle.mig_relay.proofs.multi.load_rounds_by.Goals as goal

pub rounds-init : goal.rounds-init
rounds-init g c = record { goes = λ l goes. goes; continues = all_go_on c.args.collector.now }

pub next_round-requires : goal.next_round-requires
next_round-requires g c = (c.requires.goes.0, c.rounds.invariant.goes c.requires.goes.0 c.requires.goes.1)

pub returns-in-Err-clause-ended : goal.returns-in-Err-clause-ended
returns-in-Err-clause-ended g c = λ l before.
    let goes = c.rounds.invariant.goes l before in
    ends_here l c.rounds.going.reader c.rounds.going.target c.next_round.new.going.target c.in-Err.verdict
    c.rounds.going.places.items c.rounds.collector c.next_round.new.collector
    goes c.next_round.ensures.target (c.in-Err.ensures.err l goes)

pub returns-in-Err-clause-continues : goal.returns-in-Err-clause-continues
returns-in-Err-clause-continues g c = all_go_further c.args.collector.now c.rounds.collector c.next_round.new.collector
    c.rounds.invariant.continues c.next_round.ensures.continues

pub apply_by-requires-clause-fits : goal.apply_by-requires-clause-fits
apply_by-requires-clause-fits g c = λ κs lives. (c.in-Ok.ensures.ok c.requires.goes.0 (c.rounds.invariant.goes c.requires.goes.0 c.requires.goes.1)).comes.fits

pub apply_by-requires-clause-page_sizes : goal.apply_by-requires-clause-page_sizes
apply_by-requires-clause-page_sizes g c = λ κs
    lives. (c.in-Ok.ensures.ok c.requires.goes.0 (c.rounds.invariant.goes c.requires.goes.0 c.requires.goes.1)).has_page_size

pub apply_by-requires-clause-packets : goal.apply_by-requires-clause-packets
apply_by-requires-clause-packets g c = λ κs
    lives. (c.in-Ok.ensures.ok c.requires.goes.0 (c.rounds.invariant.goes c.requires.goes.0 c.requires.goes.1)).comes.few_packets

pub returns-in-Err-apply_by-clause-ended : goal.returns-in-Err-apply_by-clause-ended
returns-in-Err-apply_by-clause-ended g c = λ l before.
    let ready = c.in-Ok.ensures.ok l (c.rounds.invariant.goes l before) in
    let target = c.next_round.new.going.target in
    let refused = subst (λ (r : Result ⊤ LoadFault). IsRoundError target.rounds
    (refusal target.memory.table target.base (pages_of_round c.in-Ok.next.0) (map fields c.in-Ok.next.1)) r) c.in-Err-apply_by.is c.apply_by.ensures.refused in
    ready_refused l c.next_round.new.going.reader c.next_round.new.going.target c.apply_by.new.target c.in-Err-apply_by.fault
    c.next_round.new.going.places.items c.next_round.new.collector
    c.in-Ok.next.0 c.in-Ok.next.1 ready c.in-Err-apply_by.ensures.err refused

pub returns-in-Err-apply_by-clause-continues : goal.returns-in-Err-apply_by-clause-continues
returns-in-Err-apply_by-clause-continues g c =
    all_go_further c.args.collector.now c.rounds.collector c.next_round.new.collector c.rounds.invariant.continues c.next_round.ensures.continues

pub rounds-preserved : goal.rounds-preserved
rounds-preserved g c = record {
  goes = λ l before.
      let ready = c.in-Ok.ensures.ok l (c.rounds.invariant.goes l before) in
      ready_put l c.next_round.new.going.reader c.next_round.new.going.target c.apply_by.new.target
      c.next_round.new.going.places.items c.next_round.new.collector
      c.in-Ok.next.0 c.in-Ok.next.1 ready c.in_default.ensures.lawful c.in_default.ensures.ok c.in_default.ensures.few;
  continues = all_go_further c.args.collector.now c.rounds.collector c.next_round.new.collector c.rounds.invariant.continues c.next_round.ensures.continues;
}
