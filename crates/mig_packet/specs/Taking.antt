-- The progress after a run over bytes in which an allocation was refused.
use Rattle.std.specs.Prelude.{◌≡◌, List, ℕ, ◌++◌}
use Rattle.mig_packet.specs.Progress.{ChannelProgress}
use Rattle.mig_packet.specs.Reading.{Front}

-- some of these bytes, complete items without a fault, were taken
pub record HasTaken (old : ChannelProgress) (bytes : List ℕ) (new : ChannelProgress) : Type 0 where
  pub front : List ℕ
  pub rest : List ℕ
  pub has_bytes : bytes ≡ front ++ rest
  pub leads : Front old front new
