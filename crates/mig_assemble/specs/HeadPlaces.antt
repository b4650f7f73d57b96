-- Where the pages of a packet are, by its head.
use Rattle.std.specs.Prelude.{ℕ, ◌≡◌, ◌≢◌, List, length, Some, None}
use Rattle.mig_mem.specs.RamTable.{RamTable, block_of}
use Rattle.mig_packet.specs.Packet.{id_in}
use Rattle.mig_packet.specs.PacketHead.{offsets_in, as_zeros}
use Rattle.mig_assemble.specs.declared.places.Pages.{Pages}
use Rattle.mig_assemble.specs.declared.places.Pages.TheVariants.{Nowhere, In, Misplaced}
use Rattle.mig_assemble.specs.Judging.{place_fault}

-- the pages of a packet are in this block, which its id names
pub record LieIn (table : RamTable) (b : ℕ) (head : List ℕ) : Type 0 where
  pub has_block : block_of table.blocks (id_in head) ≡ Some b
  pub are_right : place_fault table (as_zeros head) ≡ None

-- It has none, or they are in a block, or they are misplaced.
abbrev pub Lie : RamTable → List ℕ → Pages → Type 0
Lie table head Nowhere = length (offsets_in head) ≡ 0
Lie table head (In b) = (length (offsets_in head) ≢ 0) × LieIn table b head
Lie table head (Misplaced fault) = place_fault table (as_zeros head) ≡ Some fault
