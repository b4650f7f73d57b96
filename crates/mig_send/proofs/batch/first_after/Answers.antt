use Rattle.std.proofs.Common.{arith}
use Rattle.mig_send.proofs.PlacesFrom.{walked, place_page}
use Rattle.mig_send.proofs.batch.first_after.Goals as goal

pub overflow_add-place : goal.overflow_add-place
overflow_add-place g c = omega (arith, place_page c.args.dirty.now c.args.place c.requires.set c.requires.place)

pub returns-clause-behind : goal.returns-clause-behind
returns-clause-behind g c =
    (walked c.args.place c.args.dirty.now.marked c.first_from.result c.requires.set.is_ascending c.requires.place c.first_from.ensures).0

pub returns-clause-dirty : goal.returns-clause-dirty
returns-clause-dirty g c = (walked c.args.place c.args.dirty.now.marked c.first_from.result c.requires.set.is_ascending c.requires.place c.first_from.ensures).1
