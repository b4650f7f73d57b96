use Rattle.std.proofs.Common.{◌≡◌, ◌∙◌, [], sym, rules}
use Rattle.mig_uses.proofs.StraightTurns.{none_marked, goes_fed}
use Rattle.mig_uses.proofs.straight.Connection.feed.Goals as goal

pub returns-clause-goes : goal.returns-clause-goes
returns-clause-goes g c =
    let image = g.M.GuestTarget.image in
    let old = c.args.load.now in
    let new = c.feed.new.self in
    let none : old.claimed.marked ≡ [] = none_marked old.claimed (c.may_feed.ensures.nothing (search rules)) in
    goes_fed c.args.source _ (image c.args.memory.now) (image c.feed.new.memory) old new c.table-before.ensures.image c.table-after.ensures.image none
    (c.feed.ensures.table.1 ∙ c.requires.table ∙ sym c.feed.ensures.table.0) c.in-Ok.ensures.ok
