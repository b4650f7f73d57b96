use Rattle.std.proofs.Common.{◌/◌, ◌%◌, arith}
use Rattle.std.specs.Prelude.{slice_index}
use Rattle.mig_mem.proofs.Skips.{shifted_fits, steps_on}
use Rattle.mig_mem.proofs.skipping.page_after.Goals as goal

pub step_over-width-requires-clause-bits : goal.step_over-width-requires-clause-bits
step_over-width-requires-clause-bits c =
    let page = c.loop-left.page in
    shifted_fits (slice_index c.args.words.now (page / 64)) (page % 64) (c.type_inv.words (page / 64)).fits (omega arith)

pub loop-left-preserved : goal.loop-left-preserved
loop-left-preserved c =
    steps_on c.args.words.now c.args.from c.args.count c.loop-left.page c.loop-left.left c.step_over-width.result.0 c.step_over-width.result.1
    c.loop-left.invariant c.step_over-width.ensures
