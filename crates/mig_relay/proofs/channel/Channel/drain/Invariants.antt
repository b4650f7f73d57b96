use Rattle.std.proofs.Common.{◌≡◌, true}
use Rattle.crossbeam_channel.specs.Claims.{view, IsSeatAt}
use Rattle.crossbeam_channel.specs.Ends.{receives_on}
use Rattle.mig_relay.proofs.channel.Channel.drain.Given as goal

abbrev pub invariant-loop : goal.invariant-loop
invariant-loop g l = IsSeatAt (receives_on l.receiver) l.pass × ((view l.pass).collects ≡ true)
