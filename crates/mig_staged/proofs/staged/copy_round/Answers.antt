use Rattle.std.proofs.Common.{◌≡◌, ◌∙◌, sym, subst, arith}
use Rattle.mig_mem.specs.RamTable.{RamTable}
use Rattle.mig_mem.specs.Place.{IsPlace}
use Rattle.mig_mem.proofs.Walks.{found_page}
use Rattle.mig_staged.proofs.Staging.{copied_none, copied_next, copied_all, copied_table, found_there}
use Rattle.mig_staged.proofs.staged.copy_round.Goals as goal

pub loop-init : goal.loop-init
loop-init g c = copied_none c.args.named.now c.args.from.now (g.M.GuestTarget.image c.args.memory.now) c.table-table.ensures.image

pub copy_page-requires-clause-place : goal.copy_page-requires-clause-place
copy_page-requires-clause-place g c =
    let some = sym c.first_from.ensures ∙ c.in-Some.is in
    let table : c.args.named.now.table ≡ (g.M.GuestTarget.image c.loop.memory).table = c.requires.named
    ∙ sym (copied_table c.args.named.now c.args.from.now (g.M.GuestTarget.image c.args.memory.now) (g.M.GuestTarget.image c.loop.memory) c.loop.next
    c.loop.counter c.loop.invariant) in
    subst (λ (t : RamTable). IsPlace t c.in-Some.place) table (found_there c.args.named.now _ c.in-Some.place c.count-end.ensures.set some)

pub copy_page-requires-clause-same : goal.copy_page-requires-clause-same
copy_page-requires-clause-same g c = c.requires.same
    ∙ sym (copied_table c.args.named.now c.args.from.now (g.M.GuestTarget.image c.args.memory.now) (g.M.GuestTarget.image c.loop.memory) c.loop.next
    c.loop.counter c.loop.invariant)

pub overflow_add-next : goal.overflow_add-next
overflow_add-next g c =
    omega (arith, found_page c.args.named.now _ c.in-Some.place c.count-end.ensures.set (sym c.first_from.ensures ∙ c.in-Some.is))

pub loop-preserved : goal.loop-preserved
loop-preserved g c =
    copied_next c.args.named.now c.args.from.now (g.M.GuestTarget.image c.args.memory.now) (g.M.GuestTarget.image c.loop.memory)
    (g.M.GuestTarget.image c.copy_page.new.memory)
    c.loop.next c.in-Some.place c.loop.counter c.count-end.ensures.set c.loop.invariant (sym c.first_from.ensures ∙ c.in-Some.is) c.copy_page.ensures

pub returns-in_default : goal.returns-in_default
returns-in_default g c =
    copied_all c.args.named.now c.args.from.now (g.M.GuestTarget.image c.args.memory.now) (g.M.GuestTarget.image c.loop.memory)
    c.loop.next c.loop.counter c.loop.invariant (sym c.first_from.ensures ∙ c.in_default.is)
