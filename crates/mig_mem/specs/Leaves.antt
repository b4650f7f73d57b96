-- A list of numbers in leaves of one size. Only leaves that were written are in memory.
use Rattle.std.specs.Prelude.{ℕ, ◌≤◌, ◌*◌, ◌/◌, ◌%◌, List, [], length, map, slice_index_or}
use Rattle.std.specs.List.{range_with_len}
use Rattle.mig_mem.specs.Parts.{parts_in, AreParts}

-- one number of the leaves
abbrev pub number_at : ℕ → List (List ℕ) → ℕ → ℕ
number_at size leaves i = slice_index_or (slice_index_or leaves (i / size) []) (i % size) 0

-- the first `count` numbers
unfoldable pub numbers_in : ℕ → ℕ → List ℕ → List ℕ → List ℕ
numbers_in size count slots items = map (number_at size (parts_in size slots items)) (range_with_len 0 count)

pub record AreLeaves (size count : ℕ) (slots items : List ℕ) (capacity : ℕ) : Type 0 where
  pub are_parts : AreParts size slots items capacity
  pub enough : count ≤ length slots * size
