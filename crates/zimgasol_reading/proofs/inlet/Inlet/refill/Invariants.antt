use Rattle.std.specs.Io.KnownBytes.{Keeps}
use Rattle.zimgasol_reading.specs.Inlets.{inlet_left}
use Rattle.zimgasol_reading.proofs.inlet.Inlet.refill.Given as goal

-- what is left for the load stays
abbrev pub invariant-packets : goal.invariant-packets
invariant-packets g l = Keeps (inlet_left g.F.Read.remaining l.fn.self) (inlet_left g.F.Read.remaining l.self)
