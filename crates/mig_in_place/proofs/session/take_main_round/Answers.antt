use Rattle.std.proofs.Common.{◌∙◌, sym, subst, refl, inl, inr}
use Rattle.std.specs.Prelude.{IsTrue, IsFalse}
use Rattle.mig_mem.specs.RamTable.{RamTable}
use Rattle.mig_assemble.specs.Target.{FitsTable, pages_of_round}
use Rattle.mig_in_place.proofs.Keeping.{same_table}
use Rattle.mig_in_place.proofs.Taking.{fits, main_still, also_records, takes_records}
use Rattle.mig_in_place.proofs.session.take_main_round.Goals as goal

pub records-requires : goal.records-requires
records-requires g c =
    let table : RamTable = (g.M.GuestTarget.image c.args.memory.now).table in
    subst (λ (t : RamTable). FitsTable t c.in-Some.records) (sym (same_table table c.requires.round.0 c.args.round.now.arrivals c.requires.round.1.has_come))
    (fits table c.args.main.now c.in-Some.records c.requires.main c.in-Some.ensures.round c.in-Some.ensures.places)

pub put_records-requires : goal.put_records-requires
put_records-requires g c =
    fits (g.M.GuestTarget.image c.args.memory.now).table c.args.main.now c.in-Some.records c.requires.main c.in-Some.ensures.round c.in-Some.ensures.places

pub returns-then-not-has_misplaced-clause-taken : goal.returns-then-not-has_misplaced-clause-taken
returns-then-not-has_misplaced-clause-taken g c = λ given k text stands.
    let right : IsFalse c.args.round.now.has_misplaced = sym c.records.ensures.misplaced ∙ sym c.has_misplaced.ensures ∙ c.if-not-has_misplaced.true in
    inr (takes_records given k text c.args.main.now c.take_round.new.self c.in-Some.records c.args.round.now
    c.records.new.self (g.M.GuestTarget.image c.args.memory.now)
    (g.M.GuestTarget.image c.put_records.new.memory) c.in-Some.ensures.round c.in-Some.ensures.whole stands
    (c.in-Some.ensures.stands given k text stands) c.records.ensures.keeps c.records.ensures.misplaced
    (λ _. c.put_records.ensures.image) (λ wrong. absurd cc))

pub returns-then-not-has_misplaced-clause-main : goal.returns-then-not-has_misplaced-clause-main
returns-then-not-has_misplaced-clause-main g c =
    main_still (g.M.GuestTarget.image c.args.memory.now).table c.args.main.now c.take_round.new.self c.in-Some.ensures.stands c.requires.main

pub returns-then-not-has_misplaced-clause-round : goal.returns-then-not-has_misplaced-clause-round
returns-then-not-has_misplaced-clause-round g c =
    also_records (g.M.GuestTarget.image c.args.memory.now).table
    (pages_of_round c.in-Some.records) c.args.round.now c.records.new.self c.records.ensures.keeps c.requires.round

pub returns-in-Some-clause-taken : goal.returns-in-Some-clause-taken
returns-in-Some-clause-taken g c = λ given k text stands.
    let wrong : IsTrue c.args.round.now.has_misplaced = sym c.records.ensures.misplaced ∙ sym c.has_misplaced.ensures ∙ c.if-not-has_misplaced.false in
    inr (takes_records given k text c.args.main.now c.take_round.new.self c.in-Some.records c.args.round.now
    c.records.new.self (g.M.GuestTarget.image c.args.memory.now)
    (g.M.GuestTarget.image c.args.memory.now) c.in-Some.ensures.round c.in-Some.ensures.whole stands
    (c.in-Some.ensures.stands given k text stands) c.records.ensures.keeps c.records.ensures.misplaced
    (λ right. absurd cc) (λ _. refl))

pub returns-in-Some-clause-main : goal.returns-in-Some-clause-main
returns-in-Some-clause-main g c = main_still
    (g.M.GuestTarget.image c.args.memory.now).table c.args.main.now c.take_round.new.self c.in-Some.ensures.stands c.requires.main

pub returns-in-Some-clause-round : goal.returns-in-Some-clause-round
returns-in-Some-clause-round g c =
    also_records (g.M.GuestTarget.image c.args.memory.now).table
    (pages_of_round c.in-Some.records) c.args.round.now c.records.new.self c.records.ensures.keeps c.requires.round

pub returns-clause-taken : goal.returns-clause-taken
returns-clause-taken g c = λ given k text stands. inl (c.in_default.ensures.none, refl, refl, λ open_. c.in_default.ensures.last open_ given k text stands)
