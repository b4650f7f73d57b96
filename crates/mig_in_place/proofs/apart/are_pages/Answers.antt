use Rattle.std.proofs.Common.{[], arith}
use Rattle.mig_in_place.proofs.TakingParts.{all_pages}
use Rattle.mig_in_place.proofs.apart.are_pages.Goals as goal

pub returns : goal.returns
returns c = λ _. all_pages c.args.page_size c.args.count c.args.contents.now
    (record { ref_ptr = (0, 0); now = [] }) c.if-contents-count.false
    (λ k lt. c.loop-i.invariant k (omega (arith, lt, c.loop-i-test.false, c.loop-i.auto.i-end)))
