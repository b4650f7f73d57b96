-- A read of an input.
use Rattle.std.specs.Prelude.{◌≡◌, ℕ, Bool, List, ◌++◌, Option, IsTrue}
use Rattle.std.specs.Io.KnownBytes.{Consumes, IsAtEnd}

-- A read took some bytes from an input, and they were appended; an interrupted read took none. If
-- the input has ended, no bytes are left.
pub record HasRead (old new : Option (List ℕ)) (before after : List ℕ) (ended : Bool) : Type 0 where
  pub piece : List ℕ
  pub is_taken : Consumes old new piece
  pub is_appended : after ≡ before ++ piece
  pub is_over : IsTrue ended → IsAtEnd new
