use Rattle.mig_uses.proofs.Tracking.{finished}
use Rattle.mig_uses.proofs.live_guest.LiveGuest.finish.Goals as goal

pub returns-in-Ok : goal.returns-in-Ok
returns-in-Ok g c = λ sent is.
    finished c.args.self c.send_round.new.self c.in-Ok.text.items sent c.in_ok-send_round.ensures.memory
    (c.in_ok-send_round.ensures.sent sent is) c.in-Ok.ensures.ok
