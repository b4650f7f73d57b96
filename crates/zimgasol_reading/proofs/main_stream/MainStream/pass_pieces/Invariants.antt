use Rattle.zimgasol_reading.specs.Recorded.{StillHolds}
use Rattle.zimgasol_reading.proofs.main_stream.MainStream.pass_pieces.Given as goal

abbrev pub invariant-pieces : goal.invariant-pieces
invariant-pieces g l = StillHolds (g.S.PageSink.holds l.fn.sink) (g.S.PageSink.holds l.sink)
