use Rattle.mig_assemble.proofs.Lawful.{lawful_in_table}
use Rattle.mig_assemble.proofs.laws.lawful_rounds_lie_in_the_table.Goals as goal

pub returns : goal.returns
returns c table base records packets first lawful = lawful_in_table table base records packets first lawful
