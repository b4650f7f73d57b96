use Rattle.std.proofs.Common.{◌≡◌, ◌++◌, map, take, drop}
use Rattle.mig_in_place.specs.Sources.{at_next_round}
use Rattle.mig_in_place.proofs.session.advance_channels.Given as goal

abbrev pub invariant-loop-channel : goal.invariant-loop-channel
invariant-loop-channel g l = l.channels ≡ map at_next_round (take l.channel-index l.fn.channels) ++ drop l.channel-index l.fn.channels
