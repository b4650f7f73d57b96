use Rattle.mig_packet.proofs.TakenApart.{packet_gives, packet_comes}
use Rattle.mig_packet.proofs.page_reader.PageReader.end_taken.Goals as goal

pub returns-clause-gives : goal.returns-clause-gives
returns-clause-gives g c = packet_gives c.move_after.result c.args.self.now c.move_after.new.self c.move_after.ensures.fed c.move_after.ensures.moves

pub returns-clause-comes : goal.returns-clause-comes
returns-clause-comes g c = packet_comes c.move_after.result c.args.self.now c.move_after.new.self c.move_after.ensures.fed c.move_after.ensures.moves
