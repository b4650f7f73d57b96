-- What a taker has seen of a stream, and of the bytes after it.
use Rattle.std.specs.Prelude.{◌≤◌, ◌<◌, ◌^◌, ℕ, List, ◌++◌, length, drop, Option, Some, None, ⊤}
use Rattle.mig_stream.specs.declared.item.StreamState.{StreamState}
use Rattle.mig_stream.specs.declared.item.StreamState.TheVariants.{Reading, Closed, Bad}
use Rattle.mig_stream.specs.Giving.{Paused}

-- The first bytes of a stream that goes on, or the bytes that follow a closed stream.
pub data Seen : Type 0 where
  OfStream : List ℕ → Seen
  AfterIt : List ℕ → Seen

-- It has seen what it had.
abbrev pub StillSees : (Seen → Type 0) → (Seen → Type 0) → Type 0
StillSees old new = (seen : Seen) → old seen → new seen

-- A piece of the stream was read, which is valid up to this byte now: the taker has seen it, too.
-- Of a closed stream it has seen the bytes that follow it.
abbrev pub SeesPiece : (Seen → Type 0) → (Seen → Type 0) → List ℕ → ℕ → StreamState → Type 0
SeesPiece old new piece valid Reading = (text : List ℕ) → length (text ++ piece) < 2 ^ 63 → old (OfStream text) → new (OfStream (text ++ piece))
SeesPiece old new piece valid Closed = (text : List ℕ) → length (text ++ piece) < 2 ^ 63 → length text ≤ valid → valid ≤ length (text ++ piece)
    → old (OfStream text) → new (AfterIt (drop valid (text ++ piece)))
SeesPiece old new piece valid (Bad fault) = ⊤

-- a piece after the closed stream
abbrev pub SeesAfter : (Seen → Type 0) → (Seen → Type 0) → List ℕ → Type 0
SeesAfter old new piece = (bytes : List ℕ) → length (bytes ++ piece) < 2 ^ 63 → old (AfterIt bytes) → new (AfterIt (bytes ++ piece))

-- All of a stream that was read so far, or of a closed one the bytes after it.
abbrev pub HasSeen : (Seen → Type 0) → List ℕ → Option Paused → StreamState → ℕ → Type 0
HasSeen sees text (Some pause) found valid = sees (OfStream text)
HasSeen sees text None Closed valid = sees (AfterIt (drop valid text))
HasSeen sees text None other valid = ⊤
