use Rattle.mig_packet.proofs.TakenApart.{head_gives}
use Rattle.mig_packet.proofs.page_reader.PageReader.take_head.Goals as goal

pub returns-clause-gives : goal.returns-clause-gives
returns-clause-gives g c = head_gives c.args.head.now c.args.self.now c.move_to_pages.new.self c.move_to_pages.ensures.fed c.move_to_pages.ensures.moves
