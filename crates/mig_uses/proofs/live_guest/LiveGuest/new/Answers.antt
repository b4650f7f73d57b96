use Rattle.mig_uses.proofs.Tracking.{new_tracked}
use Rattle.mig_uses.proofs.live_guest.LiveGuest.new.Goals as goal

pub returns : goal.returns
returns g c =
    new_tracked record { memory = c.in_ok-zeroed.field-0; dirty = c.in_ok-none.field-0; sender = c.in_ok-new.field-0 } c.args.table.now c.keeps_limits.ensures
    c.in_ok-zeroed.ensures c.in_ok-none.ensures c.in_ok-new.ensures.table c.in_ok-new.ensures.none
