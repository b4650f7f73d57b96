use Rattle.std.specs.List.{AllZip}
use Rattle.mig_stream.specs.Reader.{waiting}
use Rattle.mig_relay.specs.Relayed.{Continues, Load, Goes}
use Rattle.mig_relay.proofs.relayed.load_rounds.Given as goal

abbrev pub invariant-rounds : goal.invariant-rounds
invariant-rounds g l = record {
  goes : (load : Load) → Goes load l.fn.going.reader l.fn.going.target l.fn.going.places.items l.fn.collector
      → Goes load l.going.reader l.going.target l.going.places.items l.collector;
  continues : AllZip Continues l.fn.collector l.collector;
}

abbrev pub decreases-rounds : goal.decreases-rounds
decreases-rounds g l = waiting l.going.reader
