-- The pages of one batch, each in a buffer of C, and the packet that is made of them.
use Rattle.std.specs.Prelude.{◌≡◌, ◌≢◌, ◌-◌, ◌<◌, ◌++◌, ◌==◌, ℕ, List, [], ◌∷◌, length, take, get_or, slice_index_or, Result, IsOk, ◌↔◌, ⊤}
use Rattle.std.specs.List.{position}
use Rattle.std.specs.Option.{unwrap_or}
use Rattle.mig_mem.specs.RamTable.{RamTable}
use Rattle.mig_mem.specs.declared.fault.NoMemory.{NoMemory}
use Rattle.mig_mem.specs.Image.{Image, image_of}
use Rattle.mig_send.specs.Batches.{BatchOfPages, IsBatch}
use Rattle.mig_send.specs.Packing.{packed_of}
use Rattle.mig_send.specs.Copies.{HasContents}
use Rattle.mig_send.specs.declared.channel_worker.Hand.{Hand}
use Rattle.mig_send.specs.declared.channel_worker.Hand.TheVariants.{Drawing, Claimed, Ending, Ended, Moving}
use Rattle.mig_send.specs.Work.{no_batch}
use Rattle.mig_send.specs.ChannelWork.{RoundTerms, ChannelWork, HasClaimed, HasStepped, HasEnded, after_packet}
use Rattle.mig_c_calls.specs.declared.sending.NamedBatch.{NamedBatch}
use Rattle.mig_c_calls.specs.declared.sending.HeldWorker.{HeldWorker}
use Rattle.mig_c_calls.specs.Status.{IsOneOf, done, running, no_memory, bad_length, out_of_turn}
use Rattle.mig_c_calls.specs.Multi.{Packs}

-- the content with an index
abbrev pub content_of : List (List ℕ) → ℕ → List ℕ
content_of contents i = slice_index_or contents i []

-- There is one content for each of so many pages, of the page size.
pub record AreContents (page_size count : ℕ) (contents : List (List ℕ)) : Type 0 where
  pub as_many : length contents ≡ count
  pub are_whole : (i : ℕ) → i < count → length (content_of contents i) ≡ page_size

-- At the pages of a batch a memory has these contents, one at each page, in their order.
abbrev pub HasCopied : Image → BatchOfPages → List (List ℕ) → Type 0
HasCopied image batch contents = HasContents image batch (content_of contents)

-- ---- such a memory

-- the index of a page among those of a batch, and 0 for every other page
abbrev pub index_in : List ℕ → ℕ → ℕ
index_in pages page = unwrap_or (position (λ other. other == page) pages) 0

abbrev pub copied_image : RamTable → List ℕ → List (List ℕ) → Image
copied_image table pages contents = image_of table (λ place. content_of contents (index_in pages place.page))

-- There is one page at least, and a content for each.
pub record HasPages (table : RamTable) (pages : List ℕ) (contents : List (List ℕ)) : Type 0 where
  pub has_some : 0 < length pages
  pub fits : AreContents table.page_size (length pages) contents

-- The pages are those of a batch of the table, and there is a content for each.
pub record HasBatch (table : RamTable) (pages : List ℕ) (contents : List (List ℕ)) (batch : BatchOfPages) : Type 0 where
  pub is_batch : IsBatch table batch
  pub same_pages : pages ≡ batch.pages
  pub fits : AreContents table.page_size (length batch.pages) contents

-- ---- the calls

-- This batch is reported to C: its block, how many pages it has, and which.
pub record ListsPages (named : NamedBatch) (batch : BatchOfPages) : Type 0 where
  pub same_block : named.block ≡ batch.block
  pub as_many : named.count ≡ length batch.pages
  pub has_pages : take named.count named.pages ≡ batch.pages

-- The worker's number claims a batch that isn't packed yet. This holds of the batch and the number.
abbrev pub OfClaim : (BatchOfPages → ℕ → Type 0) → RoundTerms → Hand → Type 0
OfClaim IsSo terms (Drawing seat) = ⊥
OfClaim IsSo terms (Claimed seat number) = IsSo (get_or terms.batches (number - terms.deal.base) no_batch) number
OfClaim IsSo terms (Ending spent last) = ⊥
OfClaim IsSo terms (Ended spent) = ⊥
OfClaim IsSo terms Moving = ⊥

abbrev pub OfBatch : (BatchOfPages → ℕ → Type 0) → HeldWorker → Type 0
OfBatch IsSo w = OfClaim IsSo w.worker.terms w.worker.hand

-- The effect of `next`: it draws a number, unless there is one, and names the batch that it claims.
-- If no batch is left, it writes the SYNC packet, which is one of every memory.
pub record NamesBatch (status : ℕ) (before after : NamedBatch) (old new : HeldWorker) : Type 0 where
  pub is_named : IsOneOf (done ∷ running ∷ no_memory ∷ []) status
  pub names : status ≡ running → OfBatch (λ batch number. ListsPages after batch) new
  pub ended : status ≡ done → HasEnded new.worker.hand
  pub claims : status ≢ done → HasClaimed old.worker.terms.deal old.worker.hand new.worker.hand
  pub packs : (image : Image) (sent given more : List ℕ) → image.table ≡ old.worker.terms.table → Packs image sent given more old → Packs image sent given more new
  pub same_text : status ≢ done → new.worker.text ≡ old.worker.text
  pub same_named : status ≢ running → after ≡ before
  pub same_work : (new.worker.terms ≡ old.worker.terms) × (new.worker.channel ≡ old.worker.channel) × (new.drained ≡ old.drained)

-- The effect of `pack` with the contents of the claimed batch's pages: it writes the batch's
-- packet. That is the packet of every memory that has these contents at those pages.
pub record PacksCopied (contents : List (List ℕ)) (status : ℕ) (old new : HeldWorker) : Type 0 where
  pub is_named : IsOneOf (running ∷ no_memory ∷ bad_length ∷ out_of_turn ∷ []) status
  pub wrong : status ≡ out_of_turn → OfBatch (λ batch number. ⊤) old → ⊥
  pub unfit : status ≡ bad_length → OfBatch (λ batch number. AreContents old.worker.terms.table.page_size (length batch.pages) contents → ⊥) old
  pub fits : status ≢ out_of_turn → status ≢ bad_length → OfBatch (λ batch number. AreContents old.worker.terms.table.page_size (length batch.pages) contents) old
  pub writes : status ≡ running → (image : Image) → image.table ≡ old.worker.terms.table
      → OfBatch (λ batch number. HasCopied image batch contents → new.worker.text ≡ old.worker.text ++ (packed_of image batch number).bytes) old
  pub packs : (image : Image) (sent given more : List ℕ) → image.table ≡ old.worker.terms.table → OfBatch (λ batch number. HasCopied image batch contents) old
      → Packs image sent given more old → Packs image sent given more new
  pub over : status ≡ running → new.worker.hand ≡ after_packet old.worker.hand
  pub same : status ≢ running → new.worker ≡ old.worker
  pub same_work : (new.worker.terms ≡ old.worker.terms) × (new.worker.channel ≡ old.worker.channel) × (new.drained ≡ old.drained)

-- ---- the effects on a worker alone

-- why the claimed batch isn't packed from these contents: the first reason that applies
pub record RefusesPages (contents : List (List ℕ)) (status : ℕ) (work : ChannelWork) : Type 0 where
  pub is_named : IsOneOf (no_memory ∷ bad_length ∷ out_of_turn ∷ []) status
  pub wrong : status ≡ out_of_turn → OfClaim (λ batch number. ⊤) work.terms work.hand → ⊥
  pub unfit : status ≡ bad_length → OfClaim (λ batch number. AreContents work.terms.table.page_size (length batch.pages) contents → ⊥) work.terms work.hand
  pub fits : status ≢ out_of_turn → status ≢ bad_length → OfClaim (λ batch number. AreContents work.terms.table.page_size (length batch.pages) contents) work.terms work.hand

-- a step from a memory
pub record PacksOn (image : Image) (status : ℕ) (old new : ChannelWork) : Type 0 where
  pub is_named : IsOneOf (running ∷ no_memory ∷ []) status
  pub made : Result (Unit {0}) NoMemory
  pub stepped : HasStepped image made old new
  pub is_made : IsOk made ↔ (status ≡ running)

-- the SYNC packet was written, or an allocation for it was refused
pub record EndsChannel (status : ℕ) (old new : ChannelWork) : Type 0 where
  pub is_named : IsOneOf (done ∷ no_memory ∷ []) status
  pub ended : status ≡ done → HasEnded new.hand
  pub same_hand : status ≢ done → new.hand ≡ old.hand
  pub same_text : status ≢ done → new.text ≡ old.text
  pub same_work : (new.terms ≡ old.terms) × (new.channel ≡ old.channel)
