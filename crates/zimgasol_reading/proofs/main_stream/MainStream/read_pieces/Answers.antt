use Rattle.mig_sources.specs.declared.source.Source.TheVariants as source
use Rattle.zimgasol_reading.specs.Left.{main_left}
use Rattle.zimgasol_reading.proofs.Consuming.{of_none, of_both}
use Rattle.zimgasol_reading.proofs.main_stream.MainStream.read_pieces.Goals as goal

pub pieces-init : goal.pieces-init
pieces-init g c = of_none source.Main (main_left (g.R.Read.remaining c.args.input.now) c.args.self.now) c.args.load.now

pub pieces-preserved : goal.pieces-preserved
pieces-preserved g c =
    of_both source.Main (main_left (g.R.Read.remaining c.args.input.now) c.args.self.now) (main_left (g.R.Read.remaining c.pieces.input) c.pieces.self)
    (main_left (g.R.Read.remaining c.feed_piece.new.input) c.feed_piece.new.self) c.args.load.now c.pieces.load c.feed_piece.new.load
    c.pieces.invariant c.in_ok-feed_piece.ensures
