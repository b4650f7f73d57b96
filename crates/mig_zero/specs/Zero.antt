use Rattle.std.specs.Prelude.{◌≡◌, ◌==◌, ℕ, List, All, Bool}
use Rattle.std.specs.List.{list_all}

-- a list of bytes in which no place holds a byte other than 0
abbrev pub IsZero : List ℕ → Type 0
IsZero bytes = All (λ b. b ≡ 0) bytes

-- the test of it
abbrev pub is_zero : List ℕ → Bool
is_zero bytes = list_all (λ b. b == 0) bytes
