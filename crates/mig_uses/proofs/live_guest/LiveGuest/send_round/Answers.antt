use Rattle.std.proofs.Common.{refl}
use Rattle.mig_uses.proofs.Tracking.{round_tracked}
use Rattle.mig_uses.proofs.live_guest.LiveGuest.send_round.Goals as goal

pub returns-clause-sent : goal.returns-clause-sent
returns-clause-sent g c =
    round_tracked c.args.self.now record { memory = c.args.self.now.memory; dirty = c.clear.new.self; sender = c.round.new.self }
    (record { memory = refl; dirty = c.clear.ensures; table = c.round.ensures.table; sent = c.in_ok-round.ensures.ok })
