use Rattle.mig_send.proofs.Walking.{walk_on, walk_has_place, has_some}
use Rattle.mig_send.proofs.finder.take_batch.Goals as goal

pub unreachable-requires : goal.unreachable-requires
unreachable-requires g c =
    has_some c.args.walk.next (walk_has_place c.args.limit c.args.dirty.now.marked c.args.walk c.requires.walk c.requires.at) c.in_default.not-Some

pub returns-clause-batch : goal.returns-clause-batch
returns-clause-batch g c =
    let made = c.unpacked-batch.result in
    (walk_on c.args.limit c.args.dirty.now.marked c.args.walk c.in-Some.first made.0 made.1 c.requires.walk c.in-Some.is
    c.unpacked-batch.ensures.batch c.unpacked-batch.ensures.behind).0

pub returns-clause-walk : goal.returns-clause-walk
returns-clause-walk g c =
    let made = c.unpacked-batch.result in
    (walk_on c.args.limit c.args.dirty.now.marked c.args.walk c.in-Some.first made.0 made.1 c.requires.walk c.in-Some.is
    c.unpacked-batch.ensures.batch c.unpacked-batch.ensures.behind).1
