use Rattle.std.proofs.Common.{refl}
use Rattle.mig_mem.specs.Image.{zero_image}
use Rattle.zimgasol_reading.proofs.Images.{zeros_image}
use Rattle.zimgasol_reading.proofs.load.judge_of.Goals as goal

pub returns-clause-stands : goal.returns-clause-stands
returns-clause-stands c = c.in_ok-new.ensures.stands (zero_image c.args.table.now) (zeros_image c.args.table.now) refl
