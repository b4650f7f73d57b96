-- Reads of a file at any place.
use Rattle.std.specs.Prelude.{ℕ, ◌≡◌, List, length, take, drop}

-- A buffer was filled with the bytes of a file from an offset on, or with all that there are: n
-- bytes.
abbrev pub IsReadAt : List ℕ → ℕ → ℕ → List ℕ → Type 0
IsReadAt file offset n buffer = take n buffer ≡ take (length buffer) (drop offset file)

-- The file has these bytes at an offset.
abbrev pub IsPartAt : List ℕ → ℕ → List ℕ → Type 0
IsPartAt file offset bytes = bytes ≡ take (length bytes) (drop offset file)
