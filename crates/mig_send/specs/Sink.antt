-- The effect of one worker's numbers on its sink, which is a list of packets, or the bytes of a
-- channel.
use Rattle.std.specs.Prelude.{ℕ, ◌≡◌, List, ◌++◌, map, flat_map, OnOk}
use Rattle.mig_mem.specs.Image.{Image}
use Rattle.mig_deal.specs.Deal.{SeatView}
use Rattle.mig_send.specs.declared.sink.Filled.{Filled}
use Rattle.mig_send.specs.Batches.{BatchOfPages}
use Rattle.mig_send.specs.Packing.{PackedBatch, IsPrefix}
use Rattle.mig_send.specs.Work.{Share, HasShare, claimed_packet}

-- the entries of the packets that some numbers claim, in their order
abbrev pub claimed_entries : {E : Type 0} → (PackedBatch → List E) → ℕ → Image → List BatchOfPages → List ℕ → List E
claimed_entries entries base image batches numbers =
    flat_map entries (map (claimed_packet base image batches) numbers)

-- The result of a worker that filled a sink: it drew a share, and the sink has, after its entries
-- before, those of the packets that the share's numbers claim. If an allocation was refused, the
-- sink begins with its entries before.
pub record HasFilled {E : Type 0} (entries : PackedBatch → List E) (image : Image)
    (batches : List BatchOfPages) (seat : SeatView) (before after : List E) (filled : Filled) : Type 0 where
  pub share : Share
  pub has_share : HasShare seat filled.spent share
  pub has_last : filled.last ≡ share.last
  pub keeps : IsPrefix before after
  pub has_packets : OnOk filled.made (after ≡ before ++ claimed_entries entries seat.deal.base image batches share.numbers)
