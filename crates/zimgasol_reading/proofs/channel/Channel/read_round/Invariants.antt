use Rattle.zimgasol_reading.specs.Inlets.{inlet_left}
use Rattle.zimgasol_reading.specs.Loaded.{TakesOf}
use Rattle.zimgasol_reading.proofs.channel.Channel.read_round.Given as goal

abbrev pub invariant-pieces : goal.invariant-pieces
invariant-pieces g l = TakesOf l.fn.source (inlet_left g.F.Read.remaining l.fn.self.inlet) (inlet_left g.F.Read.remaining l.self.inlet) l.fn.load l.load
