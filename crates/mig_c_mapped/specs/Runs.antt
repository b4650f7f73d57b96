-- Pages of a block that follow each other in the file, as C sees them.
use Rattle.std.specs.Prelude.{ℕ, ◌≡◌, ◌≢◌, ◌<◌, ◌≤◌, [], ◌∷◌, length, false}
use Rattle.mig_mapped.specs.declared.settings.MappedSettings.{MappedSettings}
use Rattle.mig_mapped.specs.Bitmap.{is_set}
use Rattle.mig_mapped.specs.Block.{MappedBlock, mapped_block, page_offset, IsRun}
use Rattle.mig_c_calls.specs.Status.{IsOneOf, done, no_page}
use Rattle.mig_c_mapped.specs.declared.run.FileRun.{FileRun}
use Rattle.mig_c_mapped.specs.Loads.{ReadFile}

-- The first pages of a block, from page `from` on, whose contents the file has, and the offset of
-- the first one. If it has none of them the pages up to the block's end are zeros.
pub record SeesRun (given : MappedSettings) (b : MappedBlock) (from : ℕ) (run : FileRun) : Type 0 where
  pub is_run : run.pages ≢ 0 → IsRun given.order b from run.page run.pages
  pub has_offset : run.pages ≢ 0 → run.offset ≡ page_offset given.page_size b run.page
  pub at_end : run.pages ≡ 0 → run.page ≡ b.pages
  pub are_zeros : run.pages ≡ 0 → (q : ℕ) → from ≤ q → q < b.pages → is_set given.order b.bitmap q ≡ false

-- The run is reported, of a block whose head was taken, and from one of its pages or its end on.
pub record TellsRun (block from status : ℕ) (old new : FileRun) (f : ReadFile) : Type 0 where
  pub is_named : IsOneOf (done ∷ no_page ∷ []) status
  pub sees : status ≡ done → SeesRun f.index.given (mapped_block f.index.blocks block) from new
  pub is_there : status ≡ done → block < length f.index.blocks
  pub is_page : status ≡ done → from ≤ (mapped_block f.index.blocks block).pages
  pub missing : status ≡ no_page → block < length f.index.blocks → (mapped_block f.index.blocks block).pages < from
  pub same : status ≢ done → new ≡ old
