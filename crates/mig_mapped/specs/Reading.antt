-- The reading of a file with mapped-ram, from the first entry of its size list on: its blocks, and
-- its first fault if it has one.
use Rattle.std.specs.Prelude.{ℕ, ◌≡◌, ◌≢◌, nat_lt, List, [], ◌∷◌, length, drop, Option, Some, None, if◌then◌else◌, ⊤}
use Rattle.mig_mapped.specs.declared.fault.MappedFault.{MappedFault}
use Rattle.mig_mapped.specs.declared.fault.MappedFault.TheVariants.{Truncated}
use Rattle.mig_mapped.specs.declared.settings.MappedSettings.{MappedSettings}
use Rattle.mig_mapped.specs.Block.{MappedBlock}
use Rattle.mig_mapped.specs.Head.{MappedProgress, start, head_fault, block_in, after_block}

-- the bytes of a file from the next head on
abbrev pub rest_of : List ℕ → MappedProgress → List ℕ
rest_of file c = drop c.place file

-- Each of these is the block whose head lies there, without a fault, after those before it.
abbrev pub AreBlocks : List ℕ → MappedProgress → List MappedBlock → Type 0
AreBlocks file c [] = ⊤
AreBlocks file c (b ∷ blocks) =
    (c.left ≢ 0) × (head_fault c (rest_of file c) ≡ None) × (b ≡ block_in c.given.page_size (rest_of file c)) × AreBlocks file (after_block c b) blocks

abbrev pub after_blocks : MappedProgress → List MappedBlock → MappedProgress
after_blocks c [] = c
after_blocks c (b ∷ blocks) = after_blocks (after_block c b) blocks

-- The file ends before the offset at which the last block's pages do.
abbrev pub end_fault : List ℕ → MappedProgress → Option MappedFault
end_fault file c = if nat_lt (length file) c.place then Some Truncated else None

-- A file's reading ends so: once the entries have all bytes of the total, with no fault if the file
-- has all pages, and before with the first fault of a head.
pub record EndsWith (file : List ℕ) (c : MappedProgress) (found : Option MappedFault) : Type 0 where
  pub at_end : c.left ≡ 0 → found ≡ end_fault file c
  pub at_head : c.left ≢ 0 → (found ≢ None) × (found ≡ head_fault c (rest_of file c))

-- the blocks before the first fault, and that fault, or None if the file has none
pub record MappedReading : Type 0 where
  pub blocks : List MappedBlock
  pub fault : Option MappedFault

pub record IsMappedReading (given : MappedSettings) (place total : ℕ) (file : List ℕ) (reading : MappedReading) : Type 0 where
  pub are_blocks : AreBlocks file (start given place total) reading.blocks
  pub ends : EndsWith file (after_blocks (start given place total) reading.blocks) reading.fault
