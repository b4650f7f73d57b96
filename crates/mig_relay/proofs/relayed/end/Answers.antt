use Rattle.std.proofs.Common.{map, subst, Option}
use Rattle.mig_packet.specs.Lent.{fields}
use Rattle.mig_answer.specs.declared.verdict.Verdict.{Verdict}
use Rattle.mig_relay.specs.Relayed.{ToldAt}
use Rattle.mig_relay.proofs.GoingThrough.{all_go_on}
use Rattle.mig_relay.proofs.RelayRounds.{ends_told, ends_without, main_ends, ends_at_fault}
use Rattle.mig_relay.proofs.relayed.end.Goals as goal

pub returns-in-Bad-clause-ended : goal.returns-in-Bad-clause-ended
returns-in-Bad-clause-ended g c = λ l at.
    ends_at_fault l c.args.rounds c.args.state c.stream_end-main.result c.in-Bad.fault c.args.places.now.items
    c.args.collector.now at c.stream_end-main.ensures c.in-Bad.is

pub returns-in-Bad-clause-continues : goal.returns-in-Bad-clause-continues
returns-in-Bad-clause-continues g c = all_go_on c.args.collector.now

pub returns-in_default-verdict_at_round : goal.returns-in_default-verdict_at_round
returns-in_default-verdict_at_round g c = record {
  ended = λ l at. ends_without l c.args.rounds c.no_memory.result c.args.places.now.items c.args.collector.now
      c.verdict_at_round.new.collector at.loading c.verdict_at_round.ensures.continues c.no_memory.ensures;
  continues = c.verdict_at_round.ensures.continues;
}

pub returns : goal.returns
returns g c = record {
  ended = λ l at.
      let packets = map fields c.verdict_at_round.new.gathered in
      let is = main_ends l c.args.rounds c.args.state c.stream_end-main.result c.args.places.now.items c.args.collector.now at c.stream_end-main.ensures in
      let told = subst (λ (o : Option Verdict). ToldAt l c.args.rounds c.stream_end-main.result o c.verdict_at_round.new.places.items
      c.verdict_at_round.new.collector packets) c.in-Some.is
      (c.in-Ok.ensures.told l at.loading is) in
      ends_told l c.args.rounds c.stream_end-main.result c.in-Some.verdict c.answer_of.result c.args.places.now.items
      c.verdict_at_round.new.places.items c.args.collector.now c.verdict_at_round.new.collector packets
      at.loading c.verdict_at_round.ensures.continues told c.answer_of.ensures;
  continues = c.verdict_at_round.ensures.continues;
}
