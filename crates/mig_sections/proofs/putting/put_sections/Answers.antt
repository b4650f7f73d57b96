use Rattle.std.proofs.Common.{rules, ◌≡◌, ◌∙◌, ◌+◌, Some, arith, subst, sym, ap, refl, false}
use Rattle.std.specs.Prelude.{Ok}
use Rattle.mig_mem.specs.Image.{Image}
use Rattle.mig_mem.specs.RamTable.{RamTable}
use Rattle.mig_stream.specs.Reader.{Reader}
use Rattle.mig_stream.specs.declared.round.StreamRound.{StreamRound}
use Rattle.mig_assemble.specs.Target.{FitsTable}
use Rattle.mig_load_types.specs.Settings.{for_table}
use Rattle.mig_single_load.specs.Loader.{put_so_far, memory_with, HasPutSections}
use Rattle.mig_single_load.specs.LoadInPlace.{settings_for}
use Rattle.mig_single_load.proofs.Sections.{is_few, put_more, all_put, of_some, of_none}
use Rattle.mig_sections.specs.Sections.{Takes}
use Rattle.mig_sections.proofs.WholeSections.{fits_table}
use Rattle.mig_sections.proofs.putting.put_sections.Goals as goal

pub put_records-requires : goal.put_records-requires
put_records-requires g c =
    let some = c.requires.some in
    let table : RamTable = (g.M.GuestTarget.image c.args.memory.now).table in
    let takes = c.sections.invariant.takes some.given some.text some.takes in
    let so_far = put_so_far some.text false c.sections.sections in
    let round = of_some _ c.in-Ok-Some.field-0 c.in-Ok-Some.section c.in-Ok-Some.field-0-is c.in-Ok-Some.ensures.round
    (settings_for table some.given) so_far takes.stands in
    let places = of_some _ c.in-Ok-Some.field-0 c.in-Ok-Some.section c.in-Ok-Some.field-0-is c.in-Ok-Some.ensures.places
    (settings_for table some.given) so_far takes.stands table takes.has_table in
    subst (λ (t : RamTable). FitsTable t c.in-Ok-Some.section) (sym c.sections.invariant.table) (fits_table table c.in-Ok-Some.section round.0 places)

pub name_records-requires : goal.name_records-requires
name_records-requires g c =
    let some = c.requires.some in
    let table : RamTable = (g.M.GuestTarget.image c.args.memory.now).table in
    let takes = c.sections.invariant.takes some.given some.text some.takes in
    let so_far = put_so_far some.text false c.sections.sections in
    let round = of_some _ c.in-Ok-Some.field-0 c.in-Ok-Some.section c.in-Ok-Some.field-0-is c.in-Ok-Some.ensures.round
    (settings_for table some.given) so_far takes.stands in
    let places = of_some _ c.in-Ok-Some.field-0 c.in-Ok-Some.section c.in-Ok-Some.field-0-is c.in-Ok-Some.ensures.places
    (settings_for table some.given) so_far takes.stands table takes.has_table in
    record {
      fits = subst (λ (t : RamTable). FitsTable t c.in-Ok-Some.section) (sym (c.sections.invariant.named_table ∙ c.requires.named))
          (fits_table table c.in-Ok-Some.section round.0 places);
    }

pub overflow_add-sections : goal.overflow_add-sections
overflow_add-sections g c =
    let some = c.requires.some in
    let table : RamTable = (g.M.GuestTarget.image c.args.memory.now).table in
    let n = c.sections.sections in
    let takes = c.sections.invariant.takes some.given some.text some.takes in
    let round = of_some _ c.in-Ok-Some.field-0 c.in-Ok-Some.section c.in-Ok-Some.field-0-is c.in-Ok-Some.ensures.round
    (settings_for table some.given) (put_so_far some.text false n) takes.stands in
    let few = is_few (for_table table some.given) n some.text c.in-Ok-Some.section.records takes.is_page_size round.1 in
    let short = some.is_short in
    omega (arith, few, short)

pub sections-preserved : goal.sections-preserved
sections-preserved g c =
    let table : RamTable = (g.M.GuestTarget.image c.args.memory.now).table in
    let n = c.sections.sections in
    let section = c.in-Ok-Some.section in
    record {
      takes = λ given text before.
          let takes = c.sections.invariant.takes given text before in
          record {
            is_page_size = takes.is_page_size;
            has_table = takes.has_table;
            stands = of_some _ c.in-Ok-Some.field-0 section c.in-Ok-Some.field-0-is c.in-Ok-Some.ensures.stands
                (settings_for table given) (put_so_far text false n) takes.stands;
          };
      puts = λ given first text before.
          let single = settings_for first.table given in
          let put = c.sections.invariant.puts given first text before in
          let round = of_some _ c.in-Ok-Some.field-0 section c.in-Ok-Some.field-0-is c.in-Ok-Some.ensures.round single
          (put_so_far text false n) put.stands in
          put_more (for_table first.table given) first text false c.sections.reader c.take_round.new.self
          (memory_with (g.M.GuestTarget.image c.sections.memory) c.sections.named n)
          (memory_with (g.M.GuestTarget.image c.put_records.new.memory) c.name_records.new.named (n + 1)) section
          put round.0 round.1 (of_some _ c.in-Ok-Some.field-0 section c.in-Ok-Some.field-0-is c.in-Ok-Some.ensures.stands
          single (put_so_far text false n) put.stands)
          c.put_records.ensures.image c.name_records.ensures.named refl;
      table = ap (λ (m : Image). m.table) c.put_records.ensures.image ∙ c.sections.invariant.table;
      named_table = c.name_records.ensures.table ∙ c.sections.invariant.named_table;
      fed = c.take_round.ensures.same.0 ∙ c.sections.invariant.fed;
      ended = c.take_round.ensures.same.1 ∙ c.sections.invariant.ended;
    }

pub returns-in_default-clause-takes : goal.returns-in_default-clause-takes
returns-in_default-clause-takes g c = λ given text before.
    let none : (r : StreamRound g.row.A.Denot) → c.take_round.result ≡ Ok (Some r) → ⊥ = λ r is. search rules in
    let same = of_none _ c.take_round.result c.take_round.ensures.ok none c.take_round.ensures.none in
    subst (λ (r : Reader). Takes given (g.M.GuestTarget.image c.args.memory.now).table text c.sections.sections r) (sym same)
    (c.sections.invariant.takes given text before)

pub returns-in_default-clause-puts : goal.returns-in_default-clause-puts
returns-in_default-clause-puts g c = λ given first text before.
    let none : (r : StreamRound g.row.A.Denot) → c.take_round.result ≡ Ok (Some r) → ⊥ = λ r is. search rules in
    let same = of_none _ c.take_round.result c.take_round.ensures.ok none c.take_round.ensures.none in
    let load = for_table first.table given in
    let target = memory_with (g.M.GuestTarget.image c.sections.memory) c.sections.named c.sections.sections in
    let was = c.sections.invariant.puts given first text before in
    let put = subst (λ (r : Reader). HasPutSections load first text false r target) (sym same) was in
    all_put load first text false c.take_round.new.self target put
    (λ i round has. of_none _ c.take_round.result c.take_round.ensures.ok none c.take_round.ensures.last (settings_for first.table given)
    (put_so_far text false c.sections.sections) was.stands i round has)
