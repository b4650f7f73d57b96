-- The reads of a source: the counts of a reader's reads, and the pieces that it gives.
use Rattle.std.specs.Prelude.{ℕ, ◌≤◌, ◌<◌, ◌+◌, List, length, Result, Ok, Err, nat_lt, ◌==◌, ◌&&◌, if◌then◌else◌}
use Rattle.mig_sources.specs.declared.piece_reader.ReadFailed.{ReadFailed}

-- the most bytes of one read
abbrev pub piece_limit : ℕ
piece_limit = 65536

-- the piece of a read that wasn't at the end
pub record IsPiece (piece : List ℕ) : Type 0 where
  pub is_some : 0 < length piece
  pub is_short : length piece ≤ piece_limit

-- how often a reader was read, how many of these reads failed, and how many found the end
pub record ReadsSoFar : Type 0 where
  pub reads : ℕ
  pub failed : ℕ
  pub ends : ℕ

abbrev pub no_reads : ReadsSoFar
no_reads = record { reads = 0; failed = 0; ends = 0 }

-- more reads, none of which failed or found the end
abbrev pub after_pieces : ReadsSoFar → ℕ → ReadsSoFar
after_pieces old n = record old { reads = old.reads + n }

-- one more read, which found the end
abbrev pub after_end : ReadsSoFar → ReadsSoFar
after_end old = record old { reads = old.reads + 1; ends = old.ends + 1 }

-- one more read, which failed
abbrev pub after_failure : ReadsSoFar → ReadsSoFar
after_failure old = record old { reads = old.reads + 1; failed = old.failed + 1 }

-- After a read into a piece with room for `len` bytes: 0 bytes are an end, if the piece has room
-- for one.
abbrev pub after_read : ReadsSoFar → ℕ → Result ℕ ReadFailed → ReadsSoFar
after_read old room (Ok n) = if n == 0 && nat_lt 0 room then after_end old else after_pieces old 1
after_read old room (Err failed) = after_failure old
