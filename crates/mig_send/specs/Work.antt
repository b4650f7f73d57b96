-- One worker's part of a round: the numbers that it draws, and the packets that it makes of the
-- batches that these claim.
use Rattle.std.specs.Prelude.{ℕ, ◌≡◌, ◌-◌, ◌<◌, ◌≤◌, List, [], ◌∷◌, ◌++◌, length, map, get_or, All, AllPairs, IfOk}
use Rattle.mig_mem.specs.RamTable.{RamTable}
use Rattle.mig_mem.specs.Image.{Image}
use Rattle.mig_deal.specs.Deal.{DealView, SeatView, end_of_work, end_of_deal}
use Rattle.mig_send.specs.declared.worker.Worked.{Worked}
use Rattle.mig_send.specs.Batches.{BatchOfPages, IsBatch}
use Rattle.mig_send.specs.Packing.{PackedBatch, packed_of}

-- a batch without pages, which no table has
abbrev pub no_batch : BatchOfPages
no_batch = record { block = 0; pages = [] }

-- the packet that a number claims: the number that is i above the base claims that of batch i
abbrev pub claimed_packet : ℕ → Image → List BatchOfPages → ℕ → PackedBatch
claimed_packet base image batches number = packed_of image (get_or batches (number - base) no_batch) number

-- the deal's numbers claim these batches of a table, one number for each
pub record ClaimsBatches (deal : DealView) (table : RamTable) (batches : List BatchOfPages) : Type 0 where
  pub are_batches : All (IsBatch table) batches
  pub as_many : length batches ≡ deal.batches

-- what one worker draws: numbers that claim batches, and then a last one
pub record Share : Type 0 where
  pub numbers : List ℕ
  pub last : ℕ

-- The numbers that a seat has drawn since: rising numbers that claim batches, and then one that
-- claims none.
pub record HasShare (seat spent : SeatView) (share : Share) : Type 0 where
  pub has_drawn : spent ≡ record { deal = seat.deal; drawn = seat.drawn ++ share.numbers ++ share.last ∷ [] }
  pub claim_batches : All (λ number. (seat.deal.base ≤ number) × (number < end_of_work seat.deal)) share.numbers
  pub rise : AllPairs (λ a b. a < b) share.numbers
  pub claims_none : (end_of_work seat.deal ≤ share.last) × (share.last < end_of_deal seat.deal)

-- The result of a worker: the share that it drew, and, if it returns packets, those that the
-- share's numbers claim, in their order.
pub record HasWorked {A : Type 0} (image : Image) (batches : List BatchOfPages) (seat : SeatView) (worked : Worked A) : Type 0 where
  pub share : Share
  pub has_share : HasShare seat worked.spent share
  pub has_last : worked.last ≡ share.last
  pub has_packets : IfOk worked.packets (λ packets. packets.items ≡ map (claimed_packet seat.deal.base image batches) share.numbers)
