use Rattle.std.proofs.Common.{refl}
use Rattle.mig_stream.specs.Written.{closing}
use Rattle.mig_mapped.proofs.front.end_bytes.Goals as goal

pub returns : goal.returns
unfolding closing
returns c = λ table. refl
