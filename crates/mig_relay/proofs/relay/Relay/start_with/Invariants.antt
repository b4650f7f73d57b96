use Rattle.std.proofs.Common.{◌≡◌, map, take, length}
use Rattle.mig_packet.specs.Reading.{settings, with_waiting}
use Rattle.mig_relay.specs.Relay.{at_start, so_far}
use Rattle.mig_relay.proofs.relay.Relay.start_with.Given as goal

abbrev pub invariant-loop-j : goal.invariant-loop-j
invariant-loop-j g l =
    (map so_far l.channels.items ≡ map (at_start (with_waiting l.waiting (settings l.page_size l.uuid (length l.texts)))) (take l.j l.texts))
    × (l.feeders.items ≡ l.channels.items)
