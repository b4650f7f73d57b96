use Rattle.zimgasol_reading.proofs.main_stream.MainStream.pass_pieces.Goals as goal

pub pieces-init : goal.pieces-init
pieces-init g c = λ table records has. has

pub pieces-preserved : goal.pieces-preserved
pieces-preserved g c = λ table records has. c.in_ok-take_after.ensures table records (c.pieces.invariant table records has)
