-- Big-endian numbers: how they are written, and how they are read at an offset of some bytes.
use Rattle.std.specs.Prelude.{ℕ, ◌+◌, List, slice_range}
use Rattle.std.specs.Int.{w32, w64, to_be_bytes, from_be_bytes}

unfoldable pub be32 : ℕ → List ℕ
be32 n = to_be_bytes w32 n

unfoldable pub be64 : ℕ → List ℕ
be64 n = to_be_bytes w64 n

unfoldable pub be32_at : ℕ → List ℕ → ℕ
be32_at at bytes = from_be_bytes w32 (slice_range bytes at (at + 4))

unfoldable pub be64_at : ℕ → List ℕ → ℕ
be64_at at bytes = from_be_bytes w64 (slice_range bytes at (at + 8))
