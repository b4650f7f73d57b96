-- The state of a stream that is still being received.
use Rattle.std.specs.Prelude.{ℕ, ◌++◌, List, Ok, Err}
use Rattle.mig_stream.specs.declared.fault.StreamFault.TheVariants.{Truncated}
use Rattle.mig_load_types.specs.declared.fault.Fault.TheVariants.{Stream}
use Rattle.mig_load_types.specs.declared.settings.LoadSettings.{LoadSettings}
use Rattle.mig_single_load.specs.SingleLoad.{at_main}
use Rattle.mig_single_load.specs.Loader.{HasVerdict}
use Rattle.mig_uses.specs.declared.incoming.Incoming.{Incoming}
use Rattle.mig_uses.specs.declared.incoming.Incoming.TheVariants.{Coming, Whole, Refused}

-- If more bytes are expected, the stream would be cut short if it ended here. A complete stream, or
-- a refused one, stays so, whatever follows.
abbrev pub IsTold : LoadSettings → List ℕ → Incoming → Type 0
IsTold given text Coming = (rounds : ℕ) × HasVerdict given text (at_main rounds (Stream Truncated))
IsTold given text Whole = (more : List ℕ) → HasVerdict given (text ++ more) (Ok _)
IsTold given text (Refused fault) = (more : List ℕ) → HasVerdict given (text ++ more) (Err fault)
