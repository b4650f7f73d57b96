use Rattle.std.proofs.Common.{rules, ◌≡◌}
use Rattle.std.specs.Arc.{arc_value}
use Rattle.mig_send.proofs.OpenRounds.{begun_open, has_begun}
use Rattle.mig_send.proofs.multi.MultiSender.begin_round_with.Goals as goal

pub invariant_of-result : goal.invariant_of-result
invariant_of-result g c =
    let same : c.args.dirty.table ≡ c.args.self.main.table = search rules in
    begun_open c.args.dirty c.args.self (arc_value c.in-Ok.shared) c.in-Ok.seats.items c.new-spents.result.items
    c.table.ensures.set same c.in-Ok.ensures c.new-spents.ensures.items

pub returns-in-Ok-clause-ok : goal.returns-in-Ok-clause-ok
returns-in-Ok-clause-ok g c =
    let same : c.args.dirty.table ≡ c.args.self.main.table = search rules in
    has_begun c.args.dirty c.args.self (arc_value c.in-Ok.shared) c.in-Ok.seats.items c.new-spents.result.items
    same c.in-Ok.ensures c.new-spents.ensures.items
