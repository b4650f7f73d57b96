use Rattle.std.proofs.Common.{◌≤◌, ◌+◌, length, sym, ap, subst}
use Rattle.mig_send.specs.MultiSending.{MultiSending}
use Rattle.mig_send.specs.MultiRound.{OpenMulti, IsTakenBack}
use Rattle.mig_send.proofs.TakenBack.{taken_back}
use Rattle.mig_send.proofs.multi_round.MultiRound.take_back.Goals as goal

pub returns : goal.returns
returns g c =
    let few : length c.args.self.spents + length c.args.self.seats ≤ length c.args.self.sender.channels =
    subst (λ (r : OpenMulti). length r.spents + length r.seats ≤ length r.sender.channels) c.self.view_is c.self.invariant.are_few in
    subst (λ (s : MultiSending). IsTakenBack c.args.self s) (sym (ap (λ (r : OpenMulti). r.sender) c.self.view_is)) (taken_back c.args.self few c.requires)
