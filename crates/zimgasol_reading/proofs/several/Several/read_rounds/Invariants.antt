use Rattle.zimgasol_reading.specs.Left.{sources_left}
use Rattle.zimgasol_reading.specs.Loaded.{TakesOn}
use Rattle.zimgasol_reading.specs.Answered.{StaysAsked}
use Rattle.zimgasol_reading.proofs.several.Several.read_rounds.Given as goal

abbrev pub invariant-rounds : goal.invariant-rounds
invariant-rounds g l = TakesOn (sources_left g.F.Read.remaining (g.R.Read.remaining l.fn.input) l.fn.self)
    (sources_left g.F.Read.remaining (g.R.Read.remaining l.input) l.self) l.fn.load l.load × StaysAsked l.fn.self l.self
