use Rattle.mig_mem.proofs.Lents.{lent_content}
use Rattle.mig_mem.proofs.laws.lent_pages_are_parts.Goals as goal

pub returns : goal.returns
returns c = lent_content
