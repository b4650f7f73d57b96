use Rattle.std.proofs.Common.{◌∙◌, sym, subst}
use Rattle.mig_mem.specs.RamTable.{RamTable}
use Rattle.mig_mem.specs.Place.{IsPlace}
use Rattle.mig_uses.proofs.Tracking.{backed_up}
use Rattle.mig_uses.proofs.backup.back_up.Goals as goal

pub returns-in-Ok : goal.returns-in-Ok
returns-in-Ok g c =
    let set = c.in_ok-dirty.ensures.set in
    backed_up c.args.memory.now c.in_ok-dirty.dirty c.in_ok-sender.sender c.round.new.self c.in-Ok.text.items c.table.ensures.image
    (set.0, set.1 ∙ c.table.ensures.value)
    (λ p at. c.in_ok-dirty.ensures.all p (subst (λ (t : RamTable). IsPlace t p) (sym c.table.ensures.value) at))
    c.in_ok-sender.ensures.none (c.in_ok-sender.ensures.table ∙ c.table-2.ensures.value) c.round.ensures.table c.in_ok-round.ensures.ok c.in-Ok.ensures.ok
