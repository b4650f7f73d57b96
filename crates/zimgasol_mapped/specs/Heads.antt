-- The heads of a file with mapped-ram, as they are read.
use Rattle.std.specs.Prelude.{ℕ, ◌≡◌, List, None}
use Rattle.mig_mapped.specs.Head.{MappedProgress, start, head_fault, after_head}
use Rattle.mig_mapped.specs.Reading.{rest_of, AreBlocks, after_blocks}

-- the next head of the file has no fault, and was read
pub record IsNextHead (file : List ℕ) (old new : MappedProgress) : Type 0 where
  pub has_no_fault : head_fault old (rest_of file old) ≡ None
  pub is_read : new ≡ after_head old (rest_of file old)

-- The index has the blocks whose heads lie in the file, one after another from this offset on. They
-- have this many bytes together.
pub record IsIndexOf (file : List ℕ) (page_size place total : ℕ) (index : MappedProgress) : Type 0 where
  pub has_page_size : index.given.page_size ≡ page_size
  pub are_blocks : AreBlocks file (start index.given place total) index.blocks
  pub is_index : index ≡ after_blocks (start index.given place total) index.blocks
  pub has_all : index.left ≡ 0
