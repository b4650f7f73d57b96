-- Printable ASCII, which has no control characters.
use Rattle.std.specs.Prelude.{ℕ, ◌≤◌}

-- the byte is an ASCII character from the space to the tilde
abbrev pub IsPrintable : ℕ → Type 0
IsPrintable b = (32 ≤ b) × (b ≤ 126)
