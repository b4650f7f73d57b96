-- The index of a file: the heads that were read. Only private contracts cite `IsIndex`.
use Rattle.std.specs.Prelude.{ℕ, ◌≡◌, ◌<◌, ◌^◌, List, length, map, Some, None, Result, Ok, Err, All, ⊤}
use Rattle.mig_stream.specs.Entries.{AreListed}
use Rattle.mig_mapped.specs.declared.fault.MappedStop.{MappedStop}
use Rattle.mig_mapped.specs.declared.fault.MappedStop.TheVariants as stop
use Rattle.mig_mapped.specs.Block.{ram_block, end_of}
use Rattle.mig_mapped.specs.Head.{MappedProgress, head_fault, after_head, most_file_bytes}

-- The head at the front of these bytes is taken if it has no fault, and otherwise its first fault
-- is reported. If an allocation was refused no fault is reported. If the head isn't taken nothing
-- changes.
abbrev pub TakesHead : MappedProgress → List ℕ → MappedProgress → Result ⊤ MappedStop → Type 0
TakesHead old bytes new (Ok done) = (head_fault old bytes ≡ None) × (new ≡ after_head old bytes)
TakesHead old bytes new (Err (stop.Fault fault)) = (head_fault old bytes ≡ Some fault) × (new ≡ old)
TakesHead old bytes new (Err stop.NoMemory) = new ≡ old

-- the invariant of the blocks so far
pub record IsIndex (c : MappedProgress) : Type 0 where
  pub are_listed : AreListed c.given.page_size (2 ^ 40) (Some c.left) (map ram_block c.blocks)
  pub has_blocks : c.left ≡ 0 → 0 < length c.blocks
  pub has_place : c.place < most_file_bytes
  pub have_places : All (λ b. end_of c.given.page_size b < most_file_bytes) c.blocks
