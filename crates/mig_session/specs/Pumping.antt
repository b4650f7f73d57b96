-- Pumping: pieces that are read of one source, and fed to a session.
use Rattle.std.specs.Prelude.{ℕ, ◌≡◌, ◌≢◌, ◌+◌, ◌⊎◌, List, [], ◌∷◌, length, Option, Result, Ok, Err, IfOk, All}
use Rattle.std.specs.List.{concat}
use Rattle.std.specs.Io.KnownBytes.{Consumes, IsAtEnd}
use Rattle.mig_session.specs.declared.pumping.PumpFault.{PumpFault}
use Rattle.mig_session.specs.declared.pumping.PumpFault.TheVariants.{Read, TooManyTurns, NoMemory}
use Rattle.mig_sources.specs.declared.source.Source.{Source}
use Rattle.mig_answer.specs.Texts.{Texts}
use Rattle.mig_sources.specs.Reads.{ReadsSoFar, after_pieces, after_end, after_failure, IsPiece}
use Rattle.mig_sources.specs.Sources.{Counts, feed_step, end_step, with_fed, with_end}
use Rattle.mig_session.specs.Advancing.{failed_without_memory}
use Rattle.mig_session.specs.Session.{LoadSession, answer_in, StepsOn, RunsOut, StillLacks}

-- ---- reads

-- The reader's counts for each result. Ok: one read was an end, and none failed. Read: one failed,
-- and none was an end. TooManyTurns: there were all the reads that were allowed, and each gave
-- bytes. NoMemory: each gave bytes.
abbrev pub Explains : ℕ → ReadsSoFar → ReadsSoFar → Result ℕ PumpFault → Type 0
Explains turns old new (Ok len) = (new.ends ≡ old.ends + 1) × (new.failed ≡ old.failed)
Explains turns old new (Err Read) = (new.ends ≡ old.ends) × (new.failed ≡ old.failed + 1)
Explains turns old new (Err TooManyTurns) = (new.reads ≡ old.reads + turns) × (new.ends ≡ old.ends) × (new.failed ≡ old.failed)
Explains turns old new (Err NoMemory) = (new.ends ≡ old.ends) × (new.failed ≡ old.failed)

-- the reads of some pieces: one for each, and then the one that found the end, or failed
abbrev pub reads_after : ReadsSoFar → ℕ → Result ℕ PumpFault → ReadsSoFar
reads_after old pieces (Ok len) = after_end (after_pieces old pieces)
reads_after old pieces (Err Read) = after_failure (after_pieces old pieces)
reads_after old pieces (Err TooManyTurns) = after_pieces old pieces
reads_after old pieces (Err NoMemory) = after_pieces old pieces

-- The reader gave these pieces, in this order. At Ok the number is that of their bytes, and no more
-- bytes follow.
pub record HasRead (pieces : List (List ℕ)) (result : Result ℕ PumpFault) (before after : Option (List ℕ)) : Type 0 where
  pub are_pieces : All IsPiece pieces
  pub are_given : Consumes before after (concat pieces)
  pub has_len : IfOk result (λ len. len ≡ length (concat pieces))
  pub is_at_end : IfOk result (λ len. IsAtEnd after)

-- ---- fed pieces

-- the streams with these pieces of a source fed, one after another
abbrev pub piece_steps : Source → List (List ℕ) → Texts → Texts
piece_steps source [] texts = texts
piece_steps source (piece ∷ pieces) texts = piece_steps source pieces (feed_step source piece texts)

-- with these pieces fed, and the source ended if the end of its input was found
abbrev pub pump_step : Source → List (List ℕ) → Result ℕ PumpFault → Texts → Texts
pump_step source pieces (Ok len) texts = end_step source (piece_steps source pieces texts)
pump_step source pieces (Err fault) texts = piece_steps source pieces texts

abbrev pub counts_after : Counts → Source → List (List ℕ) → Result ℕ PumpFault → Counts
counts_after counts source pieces (Ok len) = with_end (with_fed counts source (length (concat pieces))) source
counts_after counts source pieces (Err fault) = with_fed counts source (length (concat pieces))

-- An allocation was refused as the session took the last of the pieces.
pub record HasRunOut (source : Source) (pieces : List (List ℕ)) (old new : LoadSession) : Type 0 where
  pub has_last : pieces ≢ []
  pub runs_out : RunsOut (piece_steps source pieces) old new
  pub has_verdict : new.verdict ≡ failed_without_memory (answer_in new).rounds

-- The effect of a pump that fed these pieces on the streams that a session represents. With
-- NoMemory an allocation was refused in the last piece, or the pump's buffer was refused, and
-- nothing has changed.
abbrev pub PumpsOn : Source → List (List ℕ) → Result ℕ PumpFault → LoadSession → LoadSession → Type 0
PumpsOn source pieces (Ok len) old new = StepsOn (pump_step source pieces (Ok len)) old new
PumpsOn source pieces (Err Read) old new = StepsOn (piece_steps source pieces) old new
PumpsOn source pieces (Err TooManyTurns) old new = StepsOn (piece_steps source pieces) old new
PumpsOn source pieces (Err NoMemory) old new = HasRunOut source pieces old new ⊎ ((pieces ≡ []) × (new ≡ old))

-- These pieces were fed, in this order, and with Ok the source was ended.
pub record FeedsPieces (source : Source) (pieces : List (List ℕ)) (result : Result ℕ PumpFault) (old new : LoadSession) : Type 0 where
  pub stands : PumpsOn source pieces result old new
  pub lacking : StillLacks (pump_step source pieces result) old new
  pub has_counts : new.counts ≡ counts_after old.counts source pieces result
