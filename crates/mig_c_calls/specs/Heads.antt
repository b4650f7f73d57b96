-- The head of a batch's packet, copied out alone: C sends the pages after it, from where they lie.
use Rattle.std.specs.Prelude.{◌≡◌, ◌≢◌, ◌≤◌, ◌++◌, ◌==◌, not, ℕ, Bool, List, [], ◌∷◌, length, take, map, ⊤}
use Rattle.mig_mem.specs.RamTable.{RamTable}
use Rattle.mig_mem.specs.Image.{Image}
use Rattle.mig_packet.specs.PageSize.{head_len}
use Rattle.mig_send.specs.Batches.{BatchOfPages, IsBatch}
use Rattle.mig_send.specs.Packing.{packed_of}
use Rattle.mig_send.specs.Heads.{batch_head, zeros_in, contents_in, PutsHead}
use Rattle.mig_send.specs.ChannelWork.{ChannelWork, after_packet}
use Rattle.mig_c_calls.specs.declared.waiting.Waiting.{Waiting}
use Rattle.mig_c_calls.specs.declared.sending.HeldWorker.{HeldWorker}
use Rattle.mig_c_calls.specs.Status.{IsOneOf, running, no_memory, bad_length, out_of_turn}
use Rattle.mig_c_calls.specs.Multi.{Packs, waiting_in, left_in}
use Rattle.mig_c_calls.specs.Copied.{OfBatch}

-- which pages C says are zeros: those whose byte isn't 0
abbrev pub flags_of : List ℕ → List Bool
flags_of zeros = map (λ byte. not (byte == 0)) zeros

-- Each page of a batch has a byte, and there is room for the head of its packet.
pub record FitsHead (table : RamTable) (zeros : List ℕ) (room : ℕ) (batch : BatchOfPages) : Type 0 where
  pub as_many : length zeros ≡ length batch.pages
  pub has_room : head_len table.page_size ≤ room

-- The effect of `head`: it writes the head of the packet of the claimed batch to the front of a
-- buffer, if all bytes of the channel were drained. The caller sends the head, and after it the
-- contents of a memory's pages, of which these are zeros and no others. That is the packet which a
-- step from this memory writes, and the worker has packed the batch from it: the head and the
-- contents count among the bytes that were copied out.
pub record GivesHead (zeros : List ℕ) (status : ℕ) (before out : List ℕ) (was len : ℕ) (old new : HeldWorker) : Type 0 where
  pub is_named : IsOneOf (running ∷ no_memory ∷ bad_length ∷ out_of_turn ∷ []) status
  pub wrong : status ≡ out_of_turn → OfBatch (λ batch number. ⊤) old → left_in old ≡ [] → ⊥
  pub in_turn : status ≢ out_of_turn → OfBatch (λ batch number. ⊤) old × (left_in old ≡ [])
  pub unfit : status ≡ bad_length → OfBatch (λ batch number. FitsHead old.worker.terms.table zeros (length out) batch → ⊥) old
  pub fits : status ≢ out_of_turn → status ≢ bad_length → OfBatch (λ batch number. FitsHead old.worker.terms.table zeros (length out) batch) old
  pub gives : status ≡ running → OfBatch (λ batch number. take len out ≡ batch_head old.worker.terms.table batch number (flags_of zeros)) old
  pub has_length : status ≡ running → len ≡ head_len old.worker.terms.table.page_size
  pub writes : status ≡ running → (image : Image) → image.table ≡ old.worker.terms.table
      → OfBatch (λ batch number. flags_of zeros ≡ zeros_in image batch → take len out ++ contents_in image batch ≡ (packed_of image batch number).bytes) old
  pub packs : status ≡ running → (image : Image) (sent given more : List ℕ) → image.table ≡ old.worker.terms.table
      → OfBatch (λ batch number. flags_of zeros ≡ zeros_in image batch → Packs image sent given more old
      → Packs image sent given (more ++ (take len out ++ contents_in image batch)) new) old
  pub over : status ≡ running → (new.worker.hand ≡ after_packet old.worker.hand) × (left_in new ≡ [])
  pub same : status ≢ running → (out ≡ before) × (len ≡ was) × (new.worker.hand ≡ old.worker.hand) × (left_in new ≡ left_in old)
  pub keeps : status ≢ running → (image : Image) (sent given more : List ℕ) → Packs image sent given more old → Packs image sent given more new
  pub same_work : (new.worker.terms ≡ old.worker.terms) × (new.worker.channel ≡ old.worker.channel)

-- ---- the effects on a worker alone

-- a batch of the table whose head can be written
pub record TakesHead (table : RamTable) (zeros : List ℕ) (room : ℕ) (batch : BatchOfPages) : Type 0 where
  pub is_batch : IsBatch table batch
  pub fits : FitsHead table zeros room batch

-- why no head of the claimed batch is given: the first reason that applies
pub record RefusesHead (zeros : List ℕ) (room status : ℕ) (held : HeldWorker) : Type 0 where
  pub is_named : IsOneOf (bad_length ∷ out_of_turn ∷ []) status
  pub wrong : status ≡ out_of_turn → OfBatch (λ batch number. ⊤) held → waiting_in held.drained ≡ [] → ⊥
  pub in_turn : status ≢ out_of_turn → OfBatch (λ batch number. ⊤) held × (waiting_in held.drained ≡ [])
  pub unfit : status ≡ bad_length → OfBatch (λ batch number. FitsHead held.worker.terms.table zeros room batch → ⊥) held

-- The head was written to a buffer's front, or an allocation for it was refused.
pub record WritesOut (zeros : List ℕ) (status : ℕ) (before out : List ℕ) (was len : ℕ) (old new : ChannelWork) (waited waits : Waiting) : Type 0 where
  pub is_named : IsOneOf (running ∷ no_memory ∷ []) status
  pub puts : status ≡ running → PutsHead (flags_of zeros) old (record new { text = take len out }) × (new.text ≡ []) × (waiting_in waits ≡ [])
  pub has_length : status ≡ running → len ≡ head_len old.terms.table.page_size
  pub same : status ≢ running → (out ≡ before) × (len ≡ was) × (new ≡ old) × (waits ≡ waited)
  pub same_work : (new.terms ≡ old.terms) × (new.channel ≡ old.channel)
