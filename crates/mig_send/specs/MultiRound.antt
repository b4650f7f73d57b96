-- A round on several channels whose workers run on threads of the caller's.
use Rattle.std.specs.Prelude.{ℕ, ◌≡◌, ◌+◌, ◌-◌, ◌<◌, ◌≤◌, ◌^◌, List, [], ◌∷◌, ◌++◌, ◌==◌, if◌then◌else◌, length, flat_map, replicate, get_or, All}
use Rattle.std.specs.List.{AllZip, slice_set}
use Rattle.mig_mem.specs.RamTable.{RamTable}
use Rattle.mig_mem.specs.declared.place.Place.{Place}
use Rattle.mig_mem.specs.Image.{Image, IsImage}
use Rattle.mig_mem.specs.PlaceSet.{PlaceSet, IsPlaceSet}
use Rattle.mig_mem.specs.Tracking.{Snapshot}
use Rattle.mig_deal.specs.Deal.{SeatView, new_seat, times, end_of_work}
use Rattle.mig_send.specs.declared.fault.SendFault.{SendFault}
use Rattle.mig_send.specs.declared.fault.SendFault.TheVariants.{Channels, Limit, OtherTable, NoMemory}
use Rattle.mig_send.specs.Batches.{BatchOfPages, IsCut, batch_places}
use Rattle.mig_send.specs.Work.{Share, HasShare, ClaimsBatches, no_batch}
use Rattle.mig_send.specs.Dealing.{share_text}
use Rattle.mig_send.specs.DealtRounds.{DealtRound, IsDealtRound, packet_count, no_share}
use Rattle.mig_send.specs.MultiSending.{MultiSending, Drained, KeepsSetting, HasSentRounds, HasSentOne}
use Rattle.mig_send.specs.ChannelWork.{RoundTerms, ChannelWork, HasPacked, seats_of}
use Rattle.mig_send.specs.Copies.{HasPagesOf, HasPagesBelow, HasPackedEach}

-- An open round: its sender, without the bytes of the channels whose workers are out; what the
-- workers share; the seats of those that weren't given out, and what is left of the seats of those
-- that were given back, channel 0 first.
pub record OpenMulti : Type 0 where
  pub sender : MultiSending
  pub terms : RoundTerms
  pub seats : List SeatView
  pub spents : List SeatView

-- the dirty places of a round
abbrev pub dirty_of : RoundTerms → List Place
dirty_of terms = flat_map batch_places terms.batches

-- how many workers were given out
abbrev pub handed_out : OpenMulti → ℕ
handed_out round = length round.sender.channels - length round.seats

-- The invariant of an open round: its batches are those of its dirty places, its deal has one
-- number for each and a seat for each channel, and its numbers follow those of the sender's
-- packets.
pub record IsOpenMulti (round : OpenMulti) : Type 0 where
  pub same_table : round.terms.table ≡ round.sender.main.table
  pub claims : ClaimsBatches round.terms.deal round.terms.table round.terms.batches
  pub are_cut : IsCut round.sender.limit (dirty_of round.terms) round.terms.batches
  pub are_places : IsPlaceSet record { table = round.terms.table; marked = dirty_of round.terms }
  pub has_base : round.terms.deal.base ≡ round.sender.base
  pub base_fits : round.sender.base ≤ 2 ^ 63
  pub as_many : round.terms.deal.seats ≡ length round.sender.channels
  pub are_new : All (λ seat. seat ≡ new_seat round.terms.deal) round.seats
  pub are_own : All (λ spent. spent.deal ≡ round.terms.deal) round.spents
  pub are_few : length round.spents + length round.seats ≤ length round.sender.channels

-- ---- the progress of a round

-- no channel's bytes were drained in the round
abbrev pub none_drained : ℕ → List ℕ
none_drained = λ _. []

-- The channels whose workers are still to be given out have what they had.
abbrev pub AreWaiting : MultiSending → OpenMulti → Type 0
AreWaiting old round = (channel : ℕ) → handed_out round ≤ channel → channel < length old.channels
    → get_or round.sender.channels channel [] ≡ get_or old.channels channel []

-- The round was begun by a sender, and the workers that were given back packed what they drew from
-- the pages of this image: each of their channels has, after what it had, what is sent of a share.
-- These bytes of it were drained in the round. The channels whose workers are still to be given out
-- have what they had.
pub record IsRoundSoFar (image : Image) (drained : ℕ → List ℕ) (old : MultiSending) (round : OpenMulti) : Type 0 where
  pub same_sender : round.sender ≡ record old { channels = round.sender.channels }
  pub same_channels : length round.sender.channels ≡ length old.channels
  pub shares : List Share
  pub have_shares : AllZip (HasShare (new_seat round.terms.deal)) round.spents shares
  pub have_texts : (channel : ℕ) → channel < length round.spents
      → drained channel ++ get_or round.sender.channels channel []
      ≡ get_or old.channels channel [] ++ share_text round.terms.deal.base image round.terms.batches (get_or shares channel no_share)
  pub are_waiting : AreWaiting old round

-- ---- the progress of a round of a guest that runs on

-- An image has the pages of each batch of the workers that were given back, each worker with
-- memories of its own.
abbrev pub HasPagesSent : (ℕ → ℕ → Image) → OpenMulti → Image → Type 0
HasPagesSent memories round image = (channel : ℕ) → channel < length round.spents
    → HasPagesBelow (end_of_work round.terms.deal) image round.terms (get_or round.spents channel (new_seat round.terms.deal)) (memories channel)

-- As `IsRoundSoFar`, but the workers packed each batch from the memory with their channel and its
-- number: so far the round is that of every image which has the pages that were packed.
pub record IsRoundOfEach (memories : ℕ → ℕ → Image) (drained : ℕ → List ℕ) (old : MultiSending) (round : OpenMulti) : Type 0 where
  pub same_channels : length round.sender.channels ≡ length old.channels
  pub are_waiting : AreWaiting old round
  pub is_of_each : (image : Image) → image.table ≡ round.terms.table → HasPagesSent memories round image → IsRoundSoFar image drained old round

-- the memories, with these for a channel
abbrev pub with_memories : (ℕ → ℕ → Image) → ℕ → (ℕ → Image) → ℕ → ℕ → Image
with_memories memories channel own = λ other. if other == channel then own else memories other

-- ---- its calls

-- The round of a dirty set was begun: no worker was given out.
pub record HasBegun (dirty : PlaceSet) (old : MultiSending) (round : OpenMulti) : Type 0 where
  pub same_table : dirty.table ≡ old.main.table
  pub of_table : round.terms.table ≡ old.main.table
  pub is_of : dirty_of round.terms ≡ dirty.marked
  pub same_sender : round.sender ≡ old
  pub all_left : length round.seats ≡ length old.channels
  pub none_back : round.spents ≡ []
  pub has_come : (image : Image) (drained : ℕ → List ℕ) → IsRoundSoFar image drained old round
  pub each_come : (memories : ℕ → ℕ → Image) (drained : ℕ → List ℕ) → IsRoundOfEach memories drained old round

-- why a round can't be begun: the first reason that applies
abbrev pub IsBeginFault : RamTable → RamTable → SendFault → Type 0
IsBeginFault table other Channels = ⊥
IsBeginFault table other Limit = ⊥
IsBeginFault table other OtherTable = other ≡ table → ⊥
IsBeginFault table other NoMemory = other ≡ table

-- The workers share these batches of a table, which the numbers from a base on claim, and there is
-- a new seat for each worker.
pub record IsDealtTo (base : ℕ) (table : RamTable) (batches : List BatchOfPages) (workers : ℕ) (terms : RoundTerms) (seats : List SeatView) : Type 0 where
  pub same_table : terms.table ≡ table
  pub same_batches : terms.batches ≡ batches
  pub claims : ClaimsBatches terms.deal terms.table terms.batches
  pub has_base : terms.deal.base ≡ base
  pub as_many : terms.deal.seats ≡ workers
  pub are_seats : seats ≡ replicate workers (new_seat terms.deal)

-- The workers share the batches of a dirty set, for a sender's channels.
pub record IsDealtOut (dirty : PlaceSet) (sender : MultiSending) (terms : RoundTerms) (seats : List SeatView) : Type 0 where
  pub are_cut : IsCut sender.limit dirty.marked terms.batches
  pub is_dealt : IsDealtTo sender.base sender.main.table terms.batches (length sender.channels) terms seats
  pub base_fits : sender.base ≤ 2 ^ 63

-- The next channel's worker is given out, with the bytes that the channel had.
pub record HandsOut (old new : OpenMulti) (worker : ChannelWork) : Type 0 where
  pub same_terms : new.terms ≡ old.terms
  pub worker_terms : worker.terms ≡ old.terms
  pub is_next : worker.channel ≡ handed_out old
  pub one_fewer : length old.seats ≡ length new.seats + 1
  pub same_spents : new.spents ≡ old.spents
  pub same_sender : new.sender ≡ record old.sender { channels = slice_set old.sender.channels worker.channel [] }
  pub has_come : (image : Image) (drained : ℕ → List ℕ) (sender : MultiSending) → IsRoundSoFar image drained sender old
      → IsRoundSoFar image drained sender new × HasPacked image (get_or sender.channels worker.channel []) worker.text worker
  pub each_come : (memories : ℕ → ℕ → Image) (drained : ℕ → List ℕ) (sender : MultiSending) → IsRoundOfEach memories drained sender old
      → IsRoundOfEach memories drained sender new × ((own : ℕ → Image) → HasPackedEach own (get_or sender.channels worker.channel []) worker.text worker)

-- A round of which no worker was given out is taken back: the sender is as it was before the round
-- was begun.
pub record IsTakenBack (round : OpenMulti) (sender : MultiSending) : Type 0 where
  pub same_sender : sender ≡ round.sender
  pub none_back : round.spents ≡ []
  pub was : (dirty : PlaceSet) (old : MultiSending) → HasBegun dirty old round → sender ≡ old
  pub had_come : (image : Image) (drained : ℕ → List ℕ) (old : MultiSending) → IsRoundSoFar image drained old round → sender ≡ old

-- A worker that has ended is given back: its bytes that weren't drained are its channel's.
pub record TakesBack (worker : ChannelWork) (old new : OpenMulti) : Type 0 where
  pub same_terms : new.terms ≡ old.terms
  pub same_seats : new.seats ≡ old.seats
  pub one_more : new.spents ≡ old.spents ++ seats_of worker.hand
  pub same_sender : new.sender ≡ record old.sender { channels = slice_set old.sender.channels worker.channel worker.text }
  pub has_come : (image : Image) (drained : ℕ → List ℕ) (sender : MultiSending) → IsRoundSoFar image drained sender old
      → HasPacked image (get_or sender.channels worker.channel []) (drained worker.channel ++ worker.text) worker
      → IsRoundSoFar image drained sender new
  pub each_come : (memories : ℕ → ℕ → Image) (own : ℕ → Image) (drained : ℕ → List ℕ) (sender : MultiSending) → IsRoundOfEach memories drained sender old
      → HasPackedEach own (get_or sender.channels worker.channel []) (drained worker.channel ++ worker.text) worker
      → IsRoundOfEach (with_memories memories worker.channel own) drained sender new

-- ---- the round sent

-- the bytes drained, and these bytes of each channel
abbrev pub with_channels : Drained → (ℕ → List ℕ) → Drained
with_channels drained more = record drained { channel = λ channel. drained.channel channel ++ more channel }

-- As `HasSentOne`, with these bytes of the channels drained in the round.
pub record HasSentRound (drained : ℕ → List ℕ) (snapshot : Snapshot) (old new : MultiSending) : Type 0 where
  pub round : DealtRound
  pub is_of : round.snapshot ≡ snapshot
  pub is_dealt : IsDealtRound old.main.table old.limit (length old.channels) round
  pub goes_on : round.base ≡ old.base
  pub has_base : new.base ≡ old.base + packet_count round
  pub has_rounds : new.rounds ≡ old.rounds + 1
  pub has_sent : (before : Drained) (rounds : List DealtRound) → HasSentRounds before old rounds
      → HasSentRounds (with_channels before drained) new (rounds ++ round ∷ [])

-- An image has the pages of a batch from the memory of a worker which drew the batch's number.
pub record HasBatchPacked (memories : ℕ → ℕ → Image) (round : OpenMulti) (image : Image) (i : ℕ) : Type 0 where
  pub channel : ℕ
  pub is_back : channel < length round.spents
  pub has_drawn : 0 < times (round.terms.deal.base + i) (get_or round.spents channel (new_seat round.terms.deal)).drawn
  pub has_pages : HasPagesOf image (get_or round.terms.batches i no_batch) (memories channel (round.terms.deal.base + i))

-- As `HasSentRound`, of an image that has the pages of each batch from the memory from which it was
-- packed. So it has what was packed at each dirty place.
pub record HasSentEach (memories : ℕ → ℕ → Image) (drained : ℕ → List ℕ) (round : OpenMulti) (old new : MultiSending) : Type 0 where
  pub image : Image
  pub is_image : IsImage image
  pub has_table : image.table ≡ round.terms.table
  pub has_pages : HasPagesSent memories round image
  pub has_batches : (i : ℕ) → i < length round.terms.batches → HasBatchPacked memories round image i
  pub has_sent : HasSentRound drained (record { image = image; dirty = dirty_of round.terms }) old new

-- The round is ended: if it was begun by a sender and has this progress, that sender has sent it,
-- as `MultiSender::round` does. If the steps had different memories, it has sent an image that has
-- the pages which were packed.
pub record EndsRound (round : OpenMulti) (sender : MultiSending) : Type 0 where
  pub same_setting : KeepsSetting round.sender sender
  pub has_sent : (image : Image) (drained : ℕ → List ℕ) (old : MultiSending) → IsImage image → image.table ≡ round.sender.main.table
      → IsRoundSoFar image drained old round
      → HasSentRound drained (record { image = image; dirty = dirty_of round.terms }) old sender
  pub has_sent_undrained : (image : Image) (old : MultiSending) → IsImage image → image.table ≡ round.sender.main.table
      → IsRoundSoFar image none_drained old round
      → HasSentOne (record { image = image; dirty = dirty_of round.terms }) old sender
  pub has_sent_each : (memories : ℕ → ℕ → Image) (drained : ℕ → List ℕ) (old : MultiSending)
      → ((channel number : ℕ) → IsImage (memories channel number) × ((memories channel number).table ≡ round.terms.table))
      → IsRoundOfEach memories drained old round → HasSentEach memories drained round old sender
