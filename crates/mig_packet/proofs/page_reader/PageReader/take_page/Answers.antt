use Rattle.mig_packet.specs.declared.page_reader.PageContent.TheVariants as page_content
use Rattle.mig_packet.proofs.TakenApart.{page_gives}
use Rattle.mig_packet.proofs.page_reader.PageReader.take_page.Goals as goal

pub returns-clause-gives : goal.returns-clause-gives
returns-clause-gives g c =
    page_gives c.args.self.now.packet (page_content.Lent c.args.content) c.args.content.now c.args.self.now c.give_page.new.self
    c.give_page.ensures.fed c.give_page.ensures.moves
