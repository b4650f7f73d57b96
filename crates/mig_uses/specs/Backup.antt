-- A stream that brings a guest's memory.
use Rattle.std.specs.Prelude.{ℕ, ◌≡◌, List, All}
use Rattle.mig_mem.specs.Image.{Page, Image}
use Rattle.mig_mem.specs.Round.{IsRound, after}
use Rattle.mig_stream.specs.Written.{single}

-- The stream is the single stream of some rounds, and the memory after these is the guest's.
pub record BringsMemory (m : Image) (text : List ℕ) : Type 0 where
  pub rounds : List (List Page)
  pub are_rounds : All (IsRound m.table) rounds
  pub leave_memory : after m.table rounds ≡ m
  pub is_text : text ≡ single m.table rounds
