use Rattle.std.proofs.Common.{◌≡◌}
use Rattle.mig_relay.proofs.multi.feed.Given as goal

abbrev pub invariant-loop : goal.invariant-loop
invariant-loop g l = (l.feeder.queue ≡ l.fn.feeder.queue) × (l.feeder.source ≡ l.fn.feeder.source)
