use Rattle.zimgasol_reading.specs.Left.{main_held}
use Rattle.zimgasol_reading.proofs.Consuming.{keeps_same, keeps_then}
use Rattle.zimgasol_reading.proofs.main_stream.MainStream.read_head.Goals as goal

pub pieces-init : goal.pieces-init
pieces-init g c = (keeps_same (main_held (g.R.Read.remaining c.args.input.now) c.args.self.now), λ over. over)

pub pieces-preserved : goal.pieces-preserved
pieces-preserved g c = (
  keeps_then (main_held (g.R.Read.remaining c.args.input.now) c.args.self.now) (main_held (g.R.Read.remaining c.pieces.input) c.pieces.self)
      (main_held (g.R.Read.remaining c.hold_piece.new.input) c.hold_piece.new.self) c.pieces.invariant.0 c.in_ok-hold_piece.ensures.0,
  λ over. c.in_ok-hold_piece.ensures.1 (c.pieces.invariant.1 over),
)
