use Rattle.mig_packet.proofs.PagingSteps.{steps_give, steps_come, steps_need}
use Rattle.mig_packet.proofs.page_reader.PageReader.read_on.Goals as goal

pub returns-clause-gives : goal.returns-clause-gives
returns-clause-gives g c = steps_give c.step.result.0 c.step.result.1 c.args.piece.now c.args.self.now c.step.new.self c.step.ensures

pub returns-clause-comes : goal.returns-clause-comes
returns-clause-comes g c = steps_come c.step.result.0 c.step.result.1 c.args.piece.now c.args.self.now c.step.new.self c.step.ensures

pub returns-clause-needs : goal.returns-clause-needs
returns-clause-needs g c = steps_need c.step.result.0 c.step.result.1 c.args.piece.now c.args.self.now c.step.new.self c.step.ensures
