use Rattle.zimgasol_files.specs.Differing.{piece_of}
use Rattle.zimgasol_saving.specs.Channels.{HoldsPacking}
use Rattle.zimgasol_saving.proofs.Streams.{same_sent, same_pages}
use Rattle.zimgasol_saving.proofs.ChannelSteps.{packets_sent}
use Rattle.zimgasol_saving.proofs.packets.PacketsPieceSink.send.Goals as goal

pub returns-then-are_same : goal.returns-then-are_same
returns-then-are_same g c = λ _.
    same_sent (HoldsPacking g.F.Write.contents c.args.self.now.packing) (g.W.Write.contents c.args._out.now) c.args.block c.args.first
    (piece_of c.args.pages.now) (same_pages c.args.pages.now c.are_same.result c.if-are_same.true c.are_same.ensures)

pub returns : goal.returns
returns g c = λ has.
    packets_sent g.F.Write.contents c.args.self.now.packing c.send.new.self (g.W.Write.contents c.args._out.now) c.args.block
    c.args.first (piece_of c.args.pages.now) (c.in_ok-has_places.ensures.sent has) c.in_ok-has_places.ensures.count
