-- The bytes of an input that is read in pieces: those that were read and wait, and those that are
-- left of the input.
use Rattle.std.specs.Prelude.{ℕ, List, slice_range, Option}
use Rattle.std.specs.Io.KnownBytes.{prepend_known}
use Rattle.zimgasol_files.specs.declared.opened.Opened.{Opened}
use Rattle.zimgasol_files.specs.declared.pieces.Pieces.{Pieces}

-- the bytes that were read, and wait
abbrev pub waits : Pieces → List ℕ
waits pieces = slice_range pieces.buffer.items pieces.start pieces.end

-- The bytes to come, of an input of which these are left: those that wait, and then these. None if
-- nothing is known of the input.
abbrev pub to_come : Option (List ℕ) → Pieces → Option (List ℕ)
to_come left pieces = prepend_known (waits pieces) left

-- the bytes that are left of a file, by `remaining`, which gives those of a file whose bytes are
-- known
abbrev pub left_of : {F : Type 0} → (F → Option (List ℕ)) → Opened F → Option (List ℕ)
left_of remaining file = remaining file.file
