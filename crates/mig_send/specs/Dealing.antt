-- A round dealt to workers: which of them has which number, and what each of them sends.
use Rattle.std.specs.Prelude.{ℕ, ◌≡◌, ◌+◌, ◌<◌, true, List, [], ◌++◌, length, map, flat_map, All, AllPairs, IsOk, IfOk}
use Rattle.std.specs.List.{AllZip}
use Rattle.mig_mem.specs.Image.{Image}
use Rattle.mig_packet.specs.Written.{written_packet}
use Rattle.mig_deal.specs.Deal.{DealView, HasEachOnce, new_seat, all_drawn, end_of_deal}
use Rattle.mig_send.specs.declared.worker.Worked.{Worked}
use Rattle.mig_send.specs.Batches.{BatchOfPages}
use Rattle.mig_send.specs.Packing.{PackedBatch}
use Rattle.mig_send.specs.Work.{Share, HasWorked, claimed_packet}

-- A dealing of `batches` batches whose numbers begin at a base. The number of each batch is in one
-- of the shares, once. The numbers after these, as many as there are shares, are the last ones,
-- each of one share. In each share numbers rise. Any share may have any batch.
pub record IsDealing (base batches : ℕ) (shares : List Share) : Type 0 where
  pub has_batches : HasEachOnce base (base + batches) (flat_map (λ (share : Share). share.numbers) shares)
  pub has_lasts : HasEachOnce (base + batches) (base + batches + length shares) (map (λ (share : Share). share.last) shares)
  pub rise : All (λ (share : Share). AllPairs (λ a b. a < b) share.numbers) shares

-- ---- the bytes sent of a dealing

-- the packet with SYNC and without pages, by which a channel ends a round
abbrev pub sync_packet : ℕ → ℕ → List ℕ
sync_packet page_size number = written_packet page_size number true [] [] [] []

-- the bytes sent of a share: the packets that its numbers claim, in their order, and a SYNC packet
-- of its last number
abbrev pub share_text : ℕ → Image → List BatchOfPages → Share → List ℕ
share_text base image batches share =
    flat_map (λ number. (claimed_packet base image batches number).bytes) share.numbers ++ sync_packet image.table.page_size share.last

-- the bytes sent of a worker's result: its packets, in their order, and a SYNC packet of its last
-- number
abbrev pub answer_text : ℕ → List PackedBatch → ℕ → List ℕ
answer_text page_size packets last = flat_map (λ packed. packed.bytes) packets ++ sync_packet page_size last

-- a worker's result gives the bytes sent of a share
abbrev pub IsSent : {A : Type 0} → ℕ → Image → List BatchOfPages → Share → Worked A → Type 0
IsSent base image batches share worked =
    IfOk worked.packets (λ packets. answer_text image.table.page_size packets.items worked.last ≡ share_text base image batches share)

-- Workers' results deal a round's batches from a base on: the bytes sent of them are those of a
-- dealing's shares.
pub record MakeADealing {A : Type 0} (base : ℕ) (image : Image) (batches : List BatchOfPages) (answers : List (Worked A)) : Type 0 where
  pub shares : List Share
  pub is_dealing : IsDealing base (length batches) shares
  pub are_sent : AllZip (IsSent base image batches) shares answers

-- Workers' results are a dealing under these conditions. There are as many workers as a deal has
-- seats. They began with seats that had drawn nothing, and all of them returned packets. Their
-- spent seats together hold each number of the deal once, by its end.
abbrev pub WorkersMakeADealing : Type 0 → Type 0
WorkersMakeADealing A = (deal : DealView) (image : Image) (batches : List BatchOfPages) (answers : List (Worked A))
    → All (HasWorked image batches (new_seat deal)) answers → All (λ (worked : Worked A). IsOk worked.packets) answers
    → length batches ≡ deal.batches → length answers ≡ deal.seats
    → HasEachOnce deal.base (end_of_deal deal) (all_drawn (map (λ (worked : Worked A). worked.spent) answers))
    → MakeADealing deal.base image batches answers
