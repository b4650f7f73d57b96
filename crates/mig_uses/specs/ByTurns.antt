-- A guest that is received over connections, whichever has bytes.
use Rattle.std.specs.Prelude.{ℕ, ◌≡◌, ◌≤◌, List, [], ◌∷◌, ◌++◌, map, IsTrue, Option, Some}
use Rattle.std.specs.List.{AllZip}
use Rattle.std.specs.Io.KnownBytes.{Consumes, IsAtEnd}
use Rattle.mig_mem.specs.Image.{Image, IsImage}
use Rattle.mig_mem.specs.Round.{with_rounds}
use Rattle.mig_stream.specs.Text.{total_bytes}
use Rattle.mig_send.specs.DealtRounds.{DealtRound}
use Rattle.mig_load_types.specs.declared.settings.LoadSettings.{LoadSettings}
use Rattle.mig_answer.specs.declared.verdict.Verdict.{Verdict}
use Rattle.mig_answer.specs.Texts.{Text, Texts}
use Rattle.mig_answer.specs.Sent.{IsSentInAnyOrder, sent_rounds}
use Rattle.mig_in_place.specs.Answer.{IsInPlaceAnswer}

-- A stream has the bytes that were taken of a connection, from the first one on. More may have been
-- read and wait. If the stream has ended, the connection has too, and all its bytes were taken.
pub record IsTakenOf (bytes : Option (List ℕ)) (text : Text) : Type 0 where
  pub waiting : List ℕ
  pub left : Option (List ℕ)
  pub is_read : Consumes bytes left (text.bytes ++ waiting)
  pub is_over : IsTrue text.ended → (waiting ≡ []) × IsAtEnd left

-- The answer of a load in place on the bytes taken of all connections, the main stream's first.
pub record IsReceived (given : LoadSettings) (uuid : List ℕ) (first : Image) (connections : List (Option (List ℕ))) (memory : Image) (verdict : Verdict) : Type 0 where
  pub texts : Texts
  pub are_taken : AllZip IsTakenOf connections (texts.main ∷ texts.channels)
  pub rounds : ℕ
  pub is_answer : IsInPlaceAnswer given uuid first texts memory rounds verdict

-- If the connections give what a `MultiSender` sent of a guest of the memory's table, the memory
-- has the rounds sent, on top of what it held.
abbrev pub SentIsReceived : ℕ → List ℕ → Image → List (Option (List ℕ)) → Image → Type 0
SentIsReceived limit uuid first connections memory = (rounds : List DealtRound) (main : List ℕ) (channels : List (List ℕ)) → connections ≡ map Some (main ∷ channels)
    → IsImage first → IsImage memory → IsSentInAnyOrder first.table uuid rounds main channels → total_bytes first.table ≤ limit → memory ≡ with_rounds first (sent_rounds rounds)
