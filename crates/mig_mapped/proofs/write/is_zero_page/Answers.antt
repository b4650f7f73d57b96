use Rattle.mig_zero.proofs.Zeros.{zero_test}
use Rattle.mig_mapped.proofs.write.is_zero_page.Goals as goal

pub returns : goal.returns
returns c = zero_test c.args.content.now c.is_zero.result c.is_zero.ensures
