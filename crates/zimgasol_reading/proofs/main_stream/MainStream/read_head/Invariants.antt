use Rattle.std.specs.Io.KnownBytes.{Keeps}
use Rattle.zimgasol_reading.specs.Left.{main_held, IsOver}
use Rattle.zimgasol_reading.proofs.main_stream.MainStream.read_head.Given as goal

abbrev pub invariant-pieces : goal.invariant-pieces
invariant-pieces g l = Keeps (main_held (g.R.Read.remaining l.fn.input) l.fn.self) (main_held (g.R.Read.remaining l.input) l.self)
    × (IsOver (g.R.Read.remaining l.fn.input) l.fn.self → IsOver (g.R.Read.remaining l.input) l.self)
