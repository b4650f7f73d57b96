-- The memory that a load builds, and the rounds that are applied to it.
use Rattle.std.specs.Prelude.{ℕ, ◌≡◌, ◌+◌, List, [], length, map, All}
use Rattle.mig_mem.specs.RamTable.{RamTable}
use Rattle.mig_mem.specs.Place.{IsPlace}
use Rattle.mig_mem.specs.Image.{Page, Image, zero_image}
use Rattle.mig_mem.specs.PlaceSet.{PlaceSet}
use Rattle.mig_mem.specs.Round.{with_round}
use Rattle.mig_stream.specs.PageRecord.{page_of}
use Rattle.mig_stream.specs.Round.{RoundOfRecords}
use Rattle.mig_packet.specs.Packet.{Fields}
use Rattle.mig_assemble.specs.Judging.{all_round_pages, places_of}
use Rattle.mig_assemble.specs.NamedPlaces.{with_places}
use Rattle.mig_assemble.specs.Arrivals.{RoundSoFar, HasCome}

-- the memory so far, the places that its rounds named, how many rounds it has, and the number that
-- the next round's first packet has
pub record LoadTarget : Type 0 where
  pub memory : Image
  pub named : PlaceSet
  pub rounds : ℕ
  pub base : ℕ

-- the set without a place
abbrev pub none_named : RamTable → PlaceSet
none_named table = record { table = table; marked = [] }

-- a memory with its contents, without a round
abbrev pub target_over : Image → LoadTarget
target_over memory = record { memory = memory; named = none_named memory.table; rounds = 0; base = 0 }

-- zeros, without a round
abbrev pub new_target : RamTable → LoadTarget
new_target table = target_over (zero_image table)

-- the pages that the records of a round represent, in their order
abbrev pub pages_of_round : RoundOfRecords → List Page
pages_of_round round = map (page_of round.page_size) round.records

-- the records are of pages of the table
pub record FitsTable (table : RamTable) (round : RoundOfRecords) : Type 0 where
  pub has_page_size : round.page_size ≡ table.page_size
  pub has_places : All (λ r. IsPlace table r.place) round.records

-- the target after a lawful round of records and packets
abbrev pub after_round : LoadTarget → RoundOfRecords → List Fields → LoadTarget
after_round target round packets = record {
  memory = with_round target.memory (all_round_pages target.memory.table (pages_of_round round) packets);
  named = with_places target.named (places_of (all_round_pages target.memory.table (pages_of_round round) packets));
  rounds = target.rounds + 1;
  base = target.base + length packets;
}

-- Both sets of a target are of the memory's table, and nothing has come of the next round.
pub record HasSets (memory : Image) (named : PlaceSet) (came : RoundSoFar) : Type 0 where
  pub none_came : HasCome came.seen.table [] came
  pub judges_table : came.seen.table ≡ memory.table
  pub same_table : named.table ≡ memory.table
