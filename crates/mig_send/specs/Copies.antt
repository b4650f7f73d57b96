-- A guest that runs on while its pages are sent: each step of a worker reads a memory of its own,
-- for example copies of the pages of one batch.
use Rattle.std.specs.Prelude.{ℕ, ◌≡◌, ◌-◌, ◌<◌, ◌++◌, ◌==◌, List, length, get_or, if◌then◌else◌, Result, IfSome, OnOk, OnErr, ⊤}
use Rattle.mig_mem.specs.declared.fault.NoMemory.{NoMemory}
use Rattle.mig_mem.specs.Place.{place_at}
use Rattle.mig_mem.specs.Image.{Image, content_at}
use Rattle.mig_deal.specs.Deal.{SeatView, times, end_of_work}
use Rattle.mig_send.specs.declared.channel_worker.Hand.{Hand}
use Rattle.mig_send.specs.declared.channel_worker.Hand.TheVariants.{Drawing, Claimed, Ending, Ended, Moving}
use Rattle.mig_send.specs.Batches.{BatchOfPages}
use Rattle.mig_send.specs.Work.{no_batch}
use Rattle.mig_send.specs.ChannelWork.{RoundTerms, ChannelWork, HasClaimed, HasPacked, after_packet, batch_in, hand_bytes}

-- ---- the pages of a batch

-- An image has these contents at the pages of a batch, one at each page, in their order.
abbrev pub HasContents : Image → BatchOfPages → (ℕ → List ℕ) → Type 0
HasContents image batch contents = (i : ℕ) → i < length batch.pages → content_at image (place_at batch.block (get_or batch.pages i 0)) ≡ contents i

-- An image has the contents of a memory at the pages of a batch.
abbrev pub HasPagesOf : Image → BatchOfPages → Image → Type 0
HasPagesOf image batch memory = HasContents image batch (λ i. content_at memory (place_at batch.block (get_or batch.pages i 0)))

-- ---- a step

-- An image of a table has the pages of the batch that a worker's number claims, as a memory has
-- them. If the number claims no batch, each image of the table has.
pub record HasPagesRead (memory : Image) (terms : RoundTerms) (hand : Hand) (image : Image) : Type 0 where
  pub same_table : image.table ≡ terms.table
  pub has_pages : IfSome (batch_in terms hand) (λ batch. HasPagesOf image batch memory)

-- ---- the packets of a worker

-- An image has the pages of the batches that a seat drew, by its numbers below a bound. A batch's
-- pages are those of the memory with its number.
abbrev pub HasPagesBelow : ℕ → Image → RoundTerms → SeatView → (ℕ → Image) → Type 0
HasPagesBelow bound image terms seat memories = (number : ℕ) → 0 < times number seat.drawn → number < bound
    → HasPagesOf image (get_or terms.batches (number - terms.deal.base) no_batch) (memories number)

-- An image has the pages of the batches that a worker has packed. A number whose packet isn't
-- written yet doesn't count.
abbrev pub HasPagesPacked : Image → RoundTerms → (ℕ → Image) → Hand → Type 0
HasPagesPacked image terms memories (Drawing seat) = HasPagesBelow (end_of_work terms.deal) image terms seat memories
HasPagesPacked image terms memories (Claimed seat number) = HasPagesBelow number image terms seat memories
HasPagesPacked image terms memories (Ending spent last) = HasPagesBelow (end_of_work terms.deal) image terms spent memories
HasPagesPacked image terms memories (Ended spent) = HasPagesBelow (end_of_work terms.deal) image terms spent memories
HasPagesPacked image terms memories Moving = ⊤

-- The worker has packed the batches that it drew, each from the memory with its number. So its
-- packets are those of every image that has the pages which were packed.
abbrev pub HasPackedEach : (ℕ → Image) → (before whole : List ℕ) → ChannelWork → Type 0
HasPackedEach memories before whole work = (image : Image) → image.table ≡ work.terms.table → HasPagesPacked image work.terms memories work.hand
    → HasPacked image before whole work

-- the memories, with this one for the batch that the worker's number claims
abbrev pub with_memory : Hand → Image → (ℕ → Image) → ℕ → Image
with_memory (Drawing seat) memory memories = memories
with_memory (Claimed seat number) memory memories = λ other. if other == number then memory else memories other
with_memory (Ending spent last) memory memories = memories
with_memory (Ended spent) memory memories = memories
with_memory Moving memory memories = memories

-- ---- the step's effect

-- The packet of a step depends on the pages of the batch that it packs, and on no other page of its
-- memory: it is that of every image that has these pages. A worker that packed what it drew from
-- such an image still has. If its steps had different memories, this one is that of the batch.
pub record PacksPages (memory : Image) (made : Result (Unit {0}) NoMemory) (old new : ChannelWork) : Type 0 where
  pub in_hand : Hand
  pub has_claimed : HasClaimed old.terms.deal old.hand in_hand
  pub writes : OnOk made ((new.hand ≡ after_packet in_hand)
      × ((image : Image) → HasPagesRead memory old.terms in_hand image → new.text ≡ old.text ++ hand_bytes image old.terms in_hand))
  pub keeps : OnErr made ((new.hand ≡ in_hand) × (new.text ≡ old.text))
  pub packed : (image : Image) (before drained : List ℕ) → HasPagesRead memory old.terms in_hand image
      → HasPacked image before (drained ++ old.text) old → HasPacked image before (drained ++ new.text) new
  pub packed_each : (memories : ℕ → Image) (before drained : List ℕ)
      → HasPackedEach memories before (drained ++ old.text) old → HasPackedEach (with_memory in_hand memory memories) before (drained ++ new.text) new
