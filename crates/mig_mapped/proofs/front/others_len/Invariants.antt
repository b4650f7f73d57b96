use Rattle.std.proofs.Common.{◌-◌, length}
use Rattle.mig_stream.specs.Machine.{SubsectionBody, subsection}
use Rattle.mig_mapped.specs.Front.{IsOther}
use Rattle.mig_mapped.proofs.FrontSteps.{SoFar}
use Rattle.mig_mapped.proofs.front.others_len.Given as goal

abbrev pub invariant-loop-len : goal.invariant-loop-len
invariant-loop-len l = SoFar SubsectionBody subsection IsOther l.bytes l.len

abbrev pub decreases-loop-len : goal.decreases-loop-len
decreases-loop-len l = length l.bytes - l.len
