use Rattle.std.proofs.Common.{◌≡◌, ◌∙◌, sym, subst, arith}
use Rattle.mig_mem.specs.RamTable.{RamTable}
use Rattle.mig_mem.specs.Place.{IsPlace}
use Rattle.mig_mem.proofs.Walks.{found_page, found_place, All-has}
use Rattle.mig_assemble.proofs.AddingPlaces.{added_more, added_all}
use Rattle.mig_assemble.proofs.named.add_places.Goals as goal

pub mark-requires : goal.mark-requires
mark-requires g c =
    let set = c.count-end.ensures.set in
    let here = All-has (IsPlace c.args.more.now.table) c.in-Some.place c.args.more.now.marked set.is_within
    (found_place _ c.in-Some.place c.args.more.now.marked (sym c.first_from.ensures ∙ c.in-Some.is)) in
    let same : c.args.more.now.table ≡ c.loop.named.table = sym c.requires ∙ sym c.loop.invariant.same_table in
    subst (λ (t : RamTable). IsPlace t c.in-Some.place) same here

pub overflow_add-from : goal.overflow_add-from
overflow_add-from g c = omega (arith, found_page c.args.more.now _ c.in-Some.place c.count-end.ensures.set (sym c.first_from.ensures ∙ c.in-Some.is))

pub loop-preserved : goal.loop-preserved
loop-preserved g c =
    added_more c.args.more.now c.args.named.now c.loop.named c.mark.new.self c.loop.from c.in-Some.place c.loop.counter
    c.count-end.ensures.set c.loop.invariant (sym c.first_from.ensures ∙ c.in-Some.is) c.mark.ensures.set

pub returns-in_default-clause-adds : goal.returns-in_default-clause-adds
returns-in_default-clause-adds g c = added_all c.args.more.now c.args.named.now c.loop.named c.loop.from c.loop.counter
    c.loop.invariant (sym c.first_from.ensures ∙ c.in_default.is)
