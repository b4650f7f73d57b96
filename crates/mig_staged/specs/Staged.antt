-- A guest memory, and the pages of the open round, which are kept apart from it.
use Rattle.std.specs.Prelude.{◌≡◌, Bool, IsTrue}
use Rattle.mig_mem.specs.PlaceSet.{PlaceSet}
use Rattle.mig_mem.specs.Image.{Image, zero_image}
use Rattle.mig_mem.specs.Round.{with_round, round_of}
use Rattle.mig_marking.specs.Fresh.{AreZeros}

-- what holds the pages of an open round, and which these are
pub record Opened : Type 0 where
  pub apart : Image
  pub named : PlaceSet

pub record Staging : Type 0 where
  -- the memory, with the rounds that were kept
  pub kept : Image
  -- what holds the pages of the open round, and which these are
  pub apart : Image
  pub named : PlaceSet
  -- whether no round was kept yet, and the memory was zeros
  pub is_fresh : Bool

-- the memory with the pages of the open round
abbrev pub staged : Staging → Image
staged s = with_round s.kept (round_of s.apart s.named.marked)

-- before the first round, of a memory of zeros
abbrev pub IsFresh : Staging → Type 0
IsFresh s = s.kept ≡ zero_image s.kept.table

-- All is of one table, and no page is kept apart but those of the open round.
pub record IsStaging (s : Staging) : Type 0 where
  pub same_apart : s.apart.table ≡ s.kept.table
  pub are_zeros : AreZeros s.apart s.named
  pub fresh : IsTrue s.is_fresh → IsFresh s
