-- Workers of a round that a test steps.
use Rattle.std.specs.Prelude.{ℕ, ◌≡◌, ◌++◌, List}
use Rattle.mig_mem.specs.Image.{Image}
use Rattle.mig_send.specs.ChannelWork.{ChannelWork, HasPacked}

-- a worker has made some steps, with the pages of an image
pub record HasRun (image : Image) (old new : ChannelWork) : Type 0 where
  pub same_terms : new.terms ≡ old.terms
  pub same_channel : new.channel ≡ old.channel
  pub has_packed : (before drained : List ℕ) → HasPacked image before (drained ++ old.text) old → HasPacked image before (drained ++ new.text) new
