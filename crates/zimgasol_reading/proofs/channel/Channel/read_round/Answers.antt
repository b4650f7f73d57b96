use Rattle.zimgasol_reading.specs.Inlets.{inlet_left}
use Rattle.zimgasol_reading.proofs.Consuming.{of_none, of_both}
use Rattle.zimgasol_reading.proofs.channel.Channel.read_round.Goals as goal

pub pieces-init : goal.pieces-init
pieces-init g c = of_none c.args.source (inlet_left g.F.Read.remaining c.args.self.now.inlet) c.args.load.now

pub pieces-preserved : goal.pieces-preserved
pieces-preserved g c = of_both c.args.source (inlet_left g.F.Read.remaining c.args.self.now.inlet) (inlet_left g.F.Read.remaining c.pieces.self.inlet)
    (inlet_left g.F.Read.remaining c.feed_piece.new.self.inlet) c.args.load.now c.pieces.load c.feed_piece.new.load c.pieces.invariant c.in_ok-is_more.ensures

pub returns-then-not-is_more : goal.returns-then-not-is_more
returns-then-not-is_more g c = of_both c.args.source (inlet_left g.F.Read.remaining c.args.self.now.inlet) (inlet_left g.F.Read.remaining c.pieces.self.inlet)
    (inlet_left g.F.Read.remaining c.feed_piece.new.self.inlet) c.args.load.now c.pieces.load c.feed_piece.new.load c.pieces.invariant c.in_ok-is_more.ensures
