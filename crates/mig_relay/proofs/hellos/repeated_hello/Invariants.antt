use Rattle.std.proofs.Common.{map}
use Rattle.mig_answer.specs.Received.{hello_in}
use Rattle.mig_relay.specs.Relayed.{received_of}
use Rattle.mig_answer.proofs.Hellos.{HaveSeen}
use Rattle.mig_relay.proofs.hellos.repeated_hello.Given as goal

abbrev pub invariant-loop-j : goal.invariant-loop-j
invariant-loop-j g l = HaveSeen l.j (map hello_in (received_of l.collector)) l.seen
