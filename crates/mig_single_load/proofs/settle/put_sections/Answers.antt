use Rattle.std.proofs.Common.{◌≡◌, ◌∙◌, Some, arith, rules, subst, sym}
use Rattle.std.specs.Prelude.{Ok}
use Rattle.mig_stream.specs.declared.round.StreamRound.{StreamRound}
use Rattle.mig_load_types.specs.Settings.{single_of}
use Rattle.mig_single_load.specs.Loader.{put_so_far, HasPutSections}
use Rattle.mig_single_load.proofs.Sections.{is_few, fits_is, put_more, all_put, of_some, of_none}
use Rattle.mig_single_load.proofs.settle.put_sections.Goals as goal

pub section-requires-clause-fits : goal.section-requires-clause-fits
section-requires-clause-fits g c =
    let some = c.requires in
    let single = single_of some.given in
    let t = c.sections.target in
    let put = c.sections.invariant.put some.given some.first some.text some.ended some.has_put in
    let so_far = put_so_far some.text some.ended t.rounds in
    let round = of_some _ c.in-Ok-Some.field-0 c.in-Ok-Some.section c.in-Ok-Some.field-0-is c.in-Ok-Some.ensures.round single so_far put.stands in
    fits_is some.given some.first some.text some.ended c.sections.reader t c.in-Ok-Some.section put round.0
    (of_some _ c.in-Ok-Some.field-0 c.in-Ok-Some.section c.in-Ok-Some.field-0-is c.in-Ok-Some.ensures.places single so_far
    put.stands some.first.table put.has_first.has_table)

pub section-requires-clause-room : goal.section-requires-clause-room
section-requires-clause-room g c =
    let some = c.requires in
    let n = c.sections.target.rounds in
    let put = c.sections.invariant.put some.given some.first some.text some.ended some.has_put in
    let round = of_some _ c.in-Ok-Some.field-0 c.in-Ok-Some.section c.in-Ok-Some.field-0-is c.in-Ok-Some.ensures.round
    (single_of some.given) (put_so_far some.text some.ended n) put.stands in
    let few = is_few some.given n some.text c.in-Ok-Some.section.records put.is_page_size round.1 in
    let short = some.is_short in
    omega (arith, few, short)

pub sections-preserved : goal.sections-preserved
sections-preserved g c = record {
  put = λ given first text ended before.
      let single = single_of given in
      let n = c.sections.target.rounds in
      let put = c.sections.invariant.put given first text ended before in
      let round = of_some _ c.in-Ok-Some.field-0 c.in-Ok-Some.section c.in-Ok-Some.field-0-is c.in-Ok-Some.ensures.round single
      (put_so_far text ended n) put.stands in
      put_more given first text ended c.sections.reader c.take_round.new.self c.sections.target c.section.new.self c.in-Ok-Some.section
      put round.0 round.1 (of_some _ c.in-Ok-Some.field-0 c.in-Ok-Some.section c.in-Ok-Some.field-0-is c.in-Ok-Some.ensures.stands
      single (put_so_far text ended n) put.stands)
      c.section.ensures.memory c.section.ensures.named c.section.ensures.rounds;
  fed = c.take_round.ensures.same.0 ∙ c.sections.invariant.fed;
  ended = c.take_round.ensures.same.1 ∙ c.sections.invariant.ended;
}

pub returns-in_default-clause-all : goal.returns-in_default-clause-all
returns-in_default-clause-all g c = λ given first text ended before.
    let t = c.sections.target in
    let none : (r : StreamRound g.row.A.Denot) → c.take_round.result ≡ Ok (Some r) → ⊥ = λ r is. search rules in
    let same = of_none _ c.take_round.result c.take_round.ensures.ok none c.take_round.ensures.none in
    let was = c.sections.invariant.put given first text ended before in
    let put = subst (λ r. HasPutSections given first text ended r t) (sym same) was in (
      put,
      all_put given first text ended c.take_round.new.self t put
          (λ i round has. of_none _ c.take_round.result c.take_round.ensures.ok none c.take_round.ensures.last (single_of given)
          (put_so_far text ended t.rounds) was.stands i round has),
    )
