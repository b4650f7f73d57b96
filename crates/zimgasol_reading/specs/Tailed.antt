-- What a survey has seen of the bytes after RAM, and what it says of them.
use Rattle.std.specs.Prelude.{◌≡◌, ◌↔◌, ◌<◌, ◌^◌, ℕ, List, [], length, Option, All, IsNone, Bool, true, false}
use Rattle.zimgasol_course.specs.Seen.{Seen, OfStream, AfterIt}
use Rattle.zimgasol_reading.specs.declared.tail.Tail.{Tail}
use Rattle.zimgasol_reading.specs.declared.tail.TailFault.{TailFault}
use Rattle.zimgasol_reading.specs.Ending.{IsWholeEnding}
use Rattle.zimgasol_reading.specs.TailSeen.{HasSeen}

-- As many bytes of the stream were read, and none after it; or these bytes after it.
abbrev pub HasSeenBytes : ℕ → Tail → Seen → Type 0
HasSeenBytes fed tail (OfStream text) = (fed ≡ length text) × HasSeen [] tail
HasSeenBytes fed tail (AfterIt bytes) = HasSeen bytes tail

-- Bytes that aren't checked have no fault. Others have none exactly if they are a whole ending.
pub record HasEnding (checks : Bool) (tail : Tail) (fault : Option TailFault) : Type 0 where
  pub unchecked : checks ≡ false → IsNone fault
  pub checked : checks ≡ true → (bytes : List ℕ) → length bytes < 2 ^ 63 → All (λ byte. byte < 2 ^ 8) bytes → HasSeen bytes tail
      → IsNone fault ↔ IsWholeEnding bytes
