use Rattle.std.proofs.Common.{◌≡◌, false, rules}
use Rattle.zimgasol_reading.specs.Inlets.{inlet_left, inlet_waits}
use Rattle.zimgasol_reading.proofs.Consuming.{takes_part, takes_ended}
use Rattle.zimgasol_reading.proofs.channel.Channel.feed_piece.Goals as goal

pub returns-then-not-is_more : goal.returns-then-not-is_more
returns-then-not-is_more g c =
    let none : c.in_ok-is_more.is_more ≡ false = search rules in
    takes_ended c.args.source (inlet_left g.F.Read.remaining c.args.self.now.inlet) (inlet_left g.F.Read.remaining c.refill.new.self) c.args.load.now
    c.end.new.self c.end.ensures c.in_ok-is_more.ensures.kept (c.in_ok-is_more.ensures.end none)

pub returns : goal.returns
returns g c =
    takes_part c.args.source (inlet_left g.F.Read.remaining c.args.self.now.inlet) (inlet_left g.F.Read.remaining c.refill.new.self)
    (inlet_left g.F.Read.remaining c.take.new.self) (inlet_waits c.refill.new.self) c.waiting-piece.result.now c.in_ok-taken.taken c.args.load.now
    c.feed.new.self c.in_ok-taken.ensures.takes c.waiting-piece.ensures c.in_ok-taken.ensures.taken c.in_ok-is_more.ensures.kept c.take.ensures
