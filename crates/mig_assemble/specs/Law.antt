-- Properties of rounds, whatever code judges them.
use Rattle.std.specs.Prelude.{ℕ, ◌≡◌, ◌↔◌, List, None, All, IsPermutation}
use Rattle.mig_mem.specs.RamTable.{RamTable}
use Rattle.mig_mem.specs.Place.{IsPlace}
use Rattle.mig_mem.specs.Image.{Page, Image}
use Rattle.mig_mem.specs.Round.{with_round}
use Rattle.mig_packet.specs.Packet.{Fields}
use Rattle.mig_assemble.specs.Judging.{refusal, all_round_pages, places_of}
use Rattle.mig_assemble.specs.Lawful.{IsLawful}

-- A round has no refusal exactly if it is lawful.
abbrev pub RoundIsLawful : Type 0
RoundIsLawful = (table : RamTable) (base : ℕ) (records : List Page) (packets : List Fields)
    → (refusal table base records packets ≡ None) ↔ IsLawful table base records packets

-- The order of a round's packets changes neither whether it is refused, and why, nor the memory
-- that a lawful one leaves.
pub record IsOrderFree (table : RamTable) (base : ℕ) (records : List Page) (packets others : List Fields) : Type 0 where
  pub same_refusal : refusal table base records packets ≡ refusal table base records others
  pub same_memory : refusal table base records packets ≡ None → (m : Image)
      → with_round m (all_round_pages table records packets) ≡ with_round m (all_round_pages table records others)

abbrev pub PacketsComeInAnyOrder : Type 0
PacketsComeInAnyOrder = (table : RamTable) (base : ℕ) (records : List Page) (packets others : List Fields) → IsPermutation packets others
    → IsOrderFree table base records packets others

-- The pages of a lawful round are in the table, if its records are.
abbrev pub LawfulRoundsLieInTheTable : Type 0
LawfulRoundsLieInTheTable = (table : RamTable) (base : ℕ) (records : List Page) (packets : List Fields)
    → All (IsPlace table) (places_of records) → refusal table base records packets ≡ None
    → All (IsPlace table) (places_of (all_round_pages table records packets))
