-- The workers of a round, each with a seat of its own and the bytes of its channel, and what they
-- write together.
use Rattle.std.specs.Prelude.{ℕ, ◌≡◌, ◌<◌, List, [], ◌++◌, length, get_or, IsOk, OnOk}
use Rattle.mig_mem.specs.Image.{Image}
use Rattle.mig_deal.specs.Deal.{DealView, SeatView, new_seat}
use Rattle.mig_send.specs.declared.share.Written.{Written}
use Rattle.mig_send.specs.declared.workers.Slot.{Slot}
use Rattle.mig_send.specs.declared.workers.Slot.TheVariants.{Waiting, Running, Done}
use Rattle.mig_send.specs.Batches.{BatchOfPages}
use Rattle.mig_send.specs.Packing.{IsPrefix}
use Rattle.mig_send.specs.Work.{Share, HasShare}
use Rattle.mig_send.specs.Dealing.{IsDealing, share_text}
use Rattle.mig_send.specs.DealtRounds.{no_share}

-- ---- one worker

-- The result of a worker that began with some bytes: these, and after them the bytes sent of the
-- share that the worker drew. If an allocation was refused, a part of it, or none.
pub record HasWritten {A : Type 0} (image : Image) (batches : List BatchOfPages) (seat : SeatView) (before : List ℕ) (written : Written A) : Type 0 where
  pub share : Share
  pub has_share : HasShare seat written.spent share
  pub keeps_text : IsPrefix before written.text.items
  pub has_text : OnOk written.made (written.text.items ≡ before ++ share_text seat.deal.base image batches share)

-- ---- slots

-- a new seat of the deal waits here for its worker
abbrev pub IsReady : {A : Type 0} → DealView → Slot A → Type 0
IsReady deal (Waiting seat text) = seat ≡ new_seat deal
IsReady deal Running = ⊥
IsReady deal (Done written) = ⊥

-- the bytes in the slot
abbrev pub slot_text : {A : Type 0} → Slot A → List ℕ
slot_text (Waiting seat text) = text.items
slot_text Running = []
slot_text (Done written) = written.text.items

-- a worker has left its result here
abbrev pub IsAnswer : {A : Type 0} → Slot A → Type 0
IsAnswer (Waiting seat text) = ⊥
IsAnswer Running = ⊥
IsAnswer (Done written) = Unit {0}

-- the worker of a new seat has written here after some bytes
abbrev pub IsDone : {A : Type 0} → DealView → Image → List BatchOfPages → List ℕ → Slot A → Type 0
IsDone deal image batches before (Done written) = HasWritten image batches (new_seat deal) before written
IsDone deal image batches before (Waiting seat text) = ⊥
IsDone deal image batches before Running = ⊥

-- it had memory for all of its share
abbrev pub HadMemory : {A : Type 0} → Slot A → Type 0
HadMemory (Done written) = IsOk written.made
HadMemory (Waiting seat text) = ⊥
HadMemory Running = ⊥

-- this is left of its seat
abbrev pub HasSpent : {A : Type 0} → Slot A → SeatView → Type 0
HasSpent (Done written) spent = spent ≡ written.spent
HasSpent (Waiting seat text) spent = ⊥
HasSpent Running spent = ⊥

-- ---- all workers

-- The channels carry a dealing of the batches from a base on: each has, after its bytes before,
-- those sent of its share.
pub record CarryDealing (base : ℕ) (image : Image) (batches : List BatchOfPages) (before after : List (List ℕ)) : Type 0 where
  pub shares : List Share
  pub is_dealing : IsDealing base (length batches) shares
  pub as_many : length shares ≡ length before
  pub have_texts : (channel : ℕ) → channel < length before
      → get_or after channel [] ≡ get_or before channel [] ++ share_text base image batches (get_or shares channel no_share)
