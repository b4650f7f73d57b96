-- A stream with the name of a machine, in a configuration after the file header.
use Rattle.std.specs.Prelude.{◌≡◌, ◌<◌, ◌++◌, List, ℕ, length, Option, None, Some}
use Rattle.mig_stream.specs.Format.{most_name_bytes}
use Rattle.mig_stream.specs.Text.{file_header, configuration}

-- The first bytes of a stream with a machine's name, in a configuration after the file header; and
-- what they are without it. With no name they are one.
abbrev pub IsNamed : Option (List ℕ) → List ℕ → List ℕ → Type 0
IsNamed None bytes plain = bytes ≡ plain
IsNamed (Some name) bytes plain = (rest : List ℕ) × (bytes ≡ file_header ++ configuration (Some name) ++ rest) × (plain ≡ file_header ++ rest)

-- no configuration has room for the name
abbrev pub IsLongName : Option (List ℕ) → Type 0
IsLongName None = ⊥
IsLongName (Some name) = most_name_bytes < length name
