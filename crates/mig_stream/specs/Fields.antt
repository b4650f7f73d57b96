-- Big-endian numbers: how they are written, and how they are read at an offset of some bytes.
use Rattle.std.specs.Prelude.{ℕ, ◌+◌, ◌*◌, ◌/◌, ◌%◌, List, [], ◌∷◌, length, slice_index, slice_range}
use Rattle.std.specs.Int.{w32, w64, to_be_bytes, from_be_bytes}

abbrev pub be16 : ℕ → List ℕ
be16 n = n / 0x100 ∷ n % 0x100 ∷ []

abbrev pub be32 : ℕ → List ℕ
be32 n = to_be_bytes w32 n

abbrev pub be64 : ℕ → List ℕ
be64 n = to_be_bytes w64 n

-- bytes, after a byte with their number
abbrev pub counted : List ℕ → List ℕ
counted bytes = length bytes ∷ bytes

-- the number of two bytes; a byte that isn't there counts as 0
abbrev pub be16_at : ℕ → List ℕ → ℕ
be16_at at bytes = slice_index bytes at * 0x100 + slice_index bytes (at + 1)

unfoldable pub be32_at : ℕ → List ℕ → ℕ
be32_at at bytes = from_be_bytes w32 (slice_range bytes at (at + 4))

unfoldable pub be64_at : ℕ → List ℕ → ℕ
be64_at at bytes = from_be_bytes w64 (slice_range bytes at (at + 8))
