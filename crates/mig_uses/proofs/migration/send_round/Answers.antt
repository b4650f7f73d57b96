use Rattle.std.proofs.Common.{◌++◌, ◌∷◌, []}
use Rattle.mig_uses.specs.Migration.{drained_to}
use Rattle.mig_uses.proofs.migration.send_round.Goals as goal

pub returns-clause-sent : goal.returns-clause-sent
returns-clause-sent g c = λ rounds has.
    let one = c.in_ok-round.ensures.ok in
    (one.round, one.is_of, c.in_ok-deliver.ensures.arrived (rounds ++ one.round ∷ []) (one.has_sent (drained_to c.args.arrived.now) rounds has))
