use Rattle.std.proofs.Common.{List, ℕ, subst}
use Rattle.mig_stream.specs.Machine.{SubsectionBody, subsection}
use Rattle.mig_mapped.specs.Front.{IsOther}
use Rattle.mig_mapped.specs.FrontParts.{Begins}
use Rattle.mig_mapped.proofs.FrontFields.{to_end}
use Rattle.mig_mapped.proofs.FrontSteps.{more_so_far}
use Rattle.mig_mapped.proofs.front.others_len.Goals as goal

pub loop-len-preserved : goal.loop-len-preserved
loop-len-preserved c =
    more_so_far SubsectionBody subsection IsOther c.args.bytes.now c.loop-len.len 40 c.loop-len.invariant
    (subst (λ (l : List ℕ). Begins SubsectionBody subsection IsOther l 40) (to_end c.args.bytes.now c.loop-len.len)
    (c.is_other.ensures.found c.loop-len-test.true))
