-- The lawful round, apart from the faults of others.
use Rattle.std.specs.Prelude.{ℕ, ◌≡◌, ◌≢◌, ◌/◌, ◌%◌, List, length, Some, All, AllPairs, IsPermutation}
use Rattle.std.specs.List.{range_with_len}
use Rattle.mig_mem.specs.RamTable.{RamTable, block_of}
use Rattle.mig_mem.specs.Place.{IsPlace, place_at}
use Rattle.mig_mem.specs.Image.{Page}
use Rattle.mig_packet.specs.Packet.{Fields}
use Rattle.mig_assemble.specs.Judging.{offsets, numbers, all_round_pages, places_of}

-- the numbers are consecutive from a base on, in some order, each once
abbrev pub AreRun : ℕ → List ℕ → Type 0
AreRun base ns = IsPermutation (range_with_len base (length ns)) ns

-- an offset is a page's in the block with an id: there is such a block, and a page of it begins at
-- the offset
pub record IsPageOffset (table : RamTable) (id : List ℕ) (offset : ℕ) : Type 0 where
  pub block : ℕ
  pub has_id : block_of table.blocks id ≡ Some block
  pub begins_page : offset % table.page_size ≡ 0
  pub is_place : IsPlace table (place_at block (offset / table.page_size))

-- A round of page records and packets, which are to be numbered from the base on, is lawful under
-- three conditions: the packets' numbers are consecutive from there; each page of each packet has a
-- place of the table; and no place occurs twice, among the records and the packets' pages together.
pub record IsLawful (table : RamTable) (base : ℕ) (records : List Page) (packets : List Fields) : Type 0 where
  pub has_run : AreRun base (numbers packets)
  pub has_places : All (λ packet. All (IsPageOffset table packet.id) (offsets packet)) packets
  pub has_each_once : AllPairs (λ p q. p ≢ q) (places_of (all_round_pages table records packets))
