use Rattle.std.proofs.Common.{ℕ, ◌≡◌, ◌+◌, ◌∙◌, Some, None, map, ap, refl, sym, subst, rules, arith}
use Rattle.std.specs.Prelude.{Ok}
use Rattle.mig_packet.specs.Lent.{fields}
use Rattle.mig_stream.specs.declared.round.StreamRound.{StreamRound}
use Rattle.mig_stream.specs.Reader.{Stands, waiting}
use Rattle.mig_load_types.specs.Settings.{main_of}
use Rattle.mig_single_load.specs.SingleLoad.{no_memory_at}
use Rattle.mig_single_load.proofs.Sections.{of_some, of_none}
use Rattle.mig_answer.specs.declared.status.Status.TheVariants.{Whole}
use Rattle.mig_relay.specs.Relayed.{Load, HasEnded}
use Rattle.mig_relay.proofs.MainStream.{main_so_far, comes_in, goes_to_end}
use Rattle.mig_relay.proofs.RelayRounds.{told_now, ends_told, ends_without, sizes_of_packets}
use Rattle.mig_relay.proofs.relayed.next_round.Goals as goal

pub end-requires : goal.end-requires
end-requires g c =
    let l : Load = c.requires.0 in
    let goes = c.requires.1 in
    let given = main_of l.given in
    let so_far = main_so_far l.main c.args.going.now.target.rounds in
    let none : (r : StreamRound g.row.A.Denot) → c.take_round.result ≡ Ok (Some r) → ⊥ = λ r is. search rules in
    let same = of_none _ c.take_round.result c.take_round.ensures.ok none c.take_round.ensures.none in
    let last = of_none _ c.take_round.result c.take_round.ensures.ok none c.take_round.ensures.last given so_far goes.stands in
    let has = c.state-state.ensures given so_far (subst (λ r. Stands given so_far r) (sym same) goes.stands) in (
      l,
      goes_to_end l c.rounds-rounds.result c.args.going.now.reader c.take_round.new.self c.args.going.now.target
          c.state-state.result c.args.going.now.places.items c.args.collector.now
          c.rounds-rounds.ensures goes same last has,
    )

pub returns-in_default-clause-err : goal.returns-in_default-clause-err
returns-in_default-clause-err g c = λ l goes.
    let given = main_of l.given in
    let so_far = main_so_far l.main c.args.going.now.target.rounds in
    let none : (r : StreamRound g.row.A.Denot) → c.take_round.result ≡ Ok (Some r) → ⊥ = λ r is. search rules in
    let same = of_none _ c.take_round.result c.take_round.ensures.ok none c.take_round.ensures.none in
    let last = of_none _ c.take_round.result c.take_round.ensures.ok none c.take_round.ensures.last given so_far goes.stands in
    let has = c.state-state.ensures given so_far (subst (λ r. Stands given so_far r) (sym same) goes.stands) in
    let at = goes_to_end l c.rounds-rounds.result c.args.going.now.reader c.take_round.new.self c.args.going.now.target
    c.state-state.result c.args.going.now.places.items c.args.collector.now
    c.rounds-rounds.ensures goes same last has in
    subst (λ (n : ℕ). HasEnded l n c.end.result c.end.new.collector) c.rounds-rounds.ensures (c.end.ensures.ended l at)

pub returns-in_default-verdict_at_round-clause-err : goal.returns-in_default-verdict_at_round-clause-err
returns-in_default-verdict_at_round-clause-err g c = λ l goes.
    ends_without l c.args.going.now.target.rounds c.no_memory.result c.args.going.now.places.items c.args.collector.now
    c.verdict_at_round.new.collector goes.loading c.verdict_at_round.ensures.continues
    (c.no_memory.ensures ∙ ap no_memory_at c.rounds-rounds.ensures)

pub answer_of-requires : goal.answer_of-requires
answer_of-requires g c =
    let l : Load = c.requires.0 in
    let goes = c.requires.1 in
    let given = main_of l.given in
    let target = c.args.going.now.target in
    let places = c.args.going.now.places.items in
    let ends = c.args.collector.now in
    let so_far = main_so_far l.main target.rounds in
    let round = of_some _ c.in-Ok-Some.field-0 c.in-Ok-Some.round c.in-Ok-Some.field-0-is c.in-Ok-Some.ensures.round given so_far goes.stands in
    let lies = of_some _ c.in-Ok-Some.field-0 c.in-Ok-Some.round c.in-Ok-Some.field-0-is c.in-Ok-Some.ensures.places given so_far goes.stands in
    let comes = comes_in l c.args.going.now.reader target places ends c.in-Ok-Some.round goes round.0 round.1 lies in
    let told = told_now l c.rounds-rounds.result target c.in-Ok.found
    (Some c.in-Some.verdict) places c.verdict_at_round.new.places.items ends c.verdict_at_round.new.collector c.in-Ok-Some.round
    (map fields c.verdict_at_round.new.gathered) c.rounds-rounds.ensures c.in-Some.is comes (c.in-Ok.ensures.told l) in
    (told.stops c.in-Some.verdict refl).2

pub returns-in-Some-clause-err : goal.returns-in-Some-clause-err
returns-in-Some-clause-err g c = λ l goes.
    let given = main_of l.given in
    let target = c.args.going.now.target in
    let places = c.args.going.now.places.items in
    let ends = c.args.collector.now in
    let so_far = main_so_far l.main target.rounds in
    let round = of_some _ c.in-Ok-Some.field-0 c.in-Ok-Some.round c.in-Ok-Some.field-0-is c.in-Ok-Some.ensures.round given so_far goes.stands in
    let lies = of_some _ c.in-Ok-Some.field-0 c.in-Ok-Some.round c.in-Ok-Some.field-0-is c.in-Ok-Some.ensures.places given so_far goes.stands in
    let comes = comes_in l c.args.going.now.reader target places ends c.in-Ok-Some.round goes round.0 round.1 lies in
    let packets = map fields c.verdict_at_round.new.gathered in
    let told = told_now l c.rounds-rounds.result target c.in-Ok.found
    (Some c.in-Some.verdict) places c.verdict_at_round.new.places.items ends c.verdict_at_round.new.collector c.in-Ok-Some.round packets
    c.rounds-rounds.ensures c.in-Some.is comes (c.in-Ok.ensures.told l) in
    ends_told l target.rounds Whole c.in-Some.verdict c.answer_of.result places c.verdict_at_round.new.places.items ends
    c.verdict_at_round.new.collector packets goes.loading c.verdict_at_round.ensures.continues told
    c.answer_of.ensures

pub returns-clause-ok : goal.returns-clause-ok
returns-clause-ok g c = λ l goes.
    let given = main_of l.given in
    let target = c.args.going.now.target in
    let places = c.args.going.now.places.items in
    let ends = c.args.collector.now in
    let so_far = main_so_far l.main target.rounds in
    let round = of_some _ c.in-Ok-Some.field-0 c.in-Ok-Some.round c.in-Ok-Some.field-0-is c.in-Ok-Some.ensures.round given so_far goes.stands in
    let lies = of_some _ c.in-Ok-Some.field-0 c.in-Ok-Some.round c.in-Ok-Some.field-0-is c.in-Ok-Some.ensures.places given so_far goes.stands in
    let comes = comes_in l c.args.going.now.reader target places ends c.in-Ok-Some.round goes round.0 round.1 lies in
    record {
      places_before = places;
      ends_before = ends;
      comes = comes;
      continues = c.verdict_at_round.ensures.continues;
      told = told_now l c.rounds-rounds.result target c.in-Ok.found None places c.verdict_at_round.new.places.items ends
          c.verdict_at_round.new.collector c.in-Ok-Some.round (map fields c.verdict_at_round.new.gathered)
          c.rounds-rounds.ensures c.in-None.is comes (c.in-Ok.ensures.told l);
      has_page_size = sizes_of_packets l target.rounds target places ends c.verdict_at_round.new.gathered goes.loading
          goes.has_loaded c.in-Ok.ensures.page_size;
      stands = of_some _ c.in-Ok-Some.field-0 c.in-Ok-Some.round c.in-Ok-Some.field-0-is c.in-Ok-Some.ensures.stands given so_far goes.stands;
      is_short = goes.is_short;
    }

pub returns-clause-fewer : goal.returns-clause-fewer
returns-clause-fewer g c =
    let less : waiting c.args.going.now.reader ≡ waiting c.take_round.new.self + 1 =
    of_some _ c.in-Ok-Some.field-0 c.in-Ok-Some.round c.in-Ok-Some.field-0-is c.in-Ok-Some.ensures.fewer in
    omega (arith, less)
