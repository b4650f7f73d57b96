use Rattle.mig_in_place.proofs.Turning.{TurnsSoFar}
use Rattle.mig_in_place.proofs.pumping.pump_by_turns.Given as goal

abbrev pub invariant-loop : goal.invariant-loop
invariant-loop g l = TurnsSoFar g.O.TurnOrder.chooses l.counter
    (record { load = l.initial.load; memory = g.M.GuestTarget.image l.initial.memory; sources = l.initial.sources; order = l.initial.order })
    (record { load = l.load; memory = g.M.GuestTarget.image l.memory; sources = l.sources; order = l.order })
