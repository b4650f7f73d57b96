-- What the load of a file has taken is the file's reading.
use Rattle.std.specs.Prelude.{ℕ, ◌≡◌, ◌≤◌, List, ◌++◌, length, None}
use Rattle.mig_mapped.specs.declared.settings.MappedSettings.{MappedSettings}
use Rattle.mig_mapped.specs.Head.{start}
use Rattle.mig_mapped.specs.Reading.{AreBlocks, after_blocks, rest_of, IsMappedReading}
use Rattle.mig_c_mapped.specs.Loads.{ReadFile, TakesHead}

-- A load has taken the first blocks of a file whose size list has its first entry at an offset, and
-- has `total` bytes.
pub record HasHeads (given : MappedSettings) (place total : ℕ) (file : List ℕ) (f : ReadFile) : Type 0 where
  pub are_blocks : AreBlocks file (start given place total) f.index.blocks
  pub is_index : f.index ≡ after_blocks (start given place total) f.index.blocks

-- A load that takes a head from bytes that lie in the file at its place has the next block, too.
abbrev pub HeadsAreTaken : Type 0
HeadsAreTaken = (given : MappedSettings) (place total : ℕ) (file bytes more : List ℕ) (old new : ReadFile) → HasHeads given place total file old
    → rest_of file old.index ≡ bytes ++ more → TakesHead bytes old new → HasHeads given place total file new

-- Once it has all of them, and the file goes on to the end of the last one's pages, the file's
-- reading has no fault, and these blocks: with them `memory_in` is the memory that it stands for.
abbrev pub FileIsRead : Type 0
FileIsRead = (given : MappedSettings) (place total : ℕ) (file : List ℕ) (f : ReadFile) → HasHeads given place total file f
    → f.index.left ≡ 0 → f.index.place ≤ length file → IsMappedReading given place total file (record { blocks = f.index.blocks; fault = None })
