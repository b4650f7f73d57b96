-- The messages of statuses, and the version.
use Rattle.std.specs.Prelude.{ℕ, ◌≡◌, ◌==◌, ◌++◌, List, ◌∷◌, []}
use Rattle.std.specs.List.{before_first}

-- a message as C has it: bytes other than 0, then one byte 0
abbrev pub IsText : List ℕ → Type 0
IsText bytes = bytes ≡ before_first (λ byte. byte == 0) bytes ++ 0 ∷ []

-- 0.3.0
abbrev pub version : ℕ
version = 300
