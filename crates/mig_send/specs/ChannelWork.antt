-- A worker of one channel that its caller steps: the values shared with the other workers of its
-- round, its state, and its channel's part of the round.
use Rattle.std.specs.Prelude.{ℕ, ◌≡◌, ◌-◌, ◌<◌, ◌≤◌, List, [], ◌∷◌, ◌++◌, length, flat_map, get_or, Option, None, Some, All, AllPairs, Result, OnOk, OnErr, ⊤}
use Rattle.mig_mem.specs.RamTable.{RamTable}
use Rattle.mig_mem.specs.Image.{Image}
use Rattle.mig_mem.specs.declared.fault.NoMemory.{NoMemory}
use Rattle.mig_deal.specs.Deal.{DealView, SeatView, new_seat, end_of_work}
use Rattle.mig_deal.specs.Drawn.{HasDrawn}
use Rattle.mig_send.specs.declared.channel_worker.Hand.{Hand}
use Rattle.mig_send.specs.declared.channel_worker.Hand.TheVariants.{Drawing, Claimed, Ending, Ended, Moving}
use Rattle.mig_send.specs.Batches.{BatchOfPages}
use Rattle.mig_send.specs.Work.{Share, HasShare, no_batch, claimed_packet}
use Rattle.mig_send.specs.Dealing.{sync_packet, share_text}

-- what the workers of a round share: the deal, and the batches of a table that its numbers claim
pub record RoundTerms : Type 0 where
  pub deal : DealView
  pub table : RamTable
  pub batches : List BatchOfPages

-- a worker: the shared values, its channel, its state, and the bytes that weren't drained
pub record ChannelWork : Type 0 where
  pub terms : RoundTerms
  pub channel : ℕ
  pub hand : Hand
  pub text : List ℕ

-- ---- the state of a worker

-- the worker's seat, if it has one
abbrev pub seats_of : Hand → List SeatView
seats_of (Drawing seat) = seat ∷ []
seats_of (Claimed seat number) = seat ∷ []
seats_of (Ending spent last) = spent ∷ []
seats_of (Ended spent) = spent ∷ []
seats_of Moving = []

-- the number that claims a batch which isn't packed yet
abbrev pub claims_of : Hand → List ℕ
claims_of (Drawing seat) = []
claims_of (Claimed seat number) = number ∷ []
claims_of (Ending spent last) = []
claims_of (Ended spent) = []
claims_of Moving = []

-- the worker has a seat of the deal, and the claimed number is that of a batch
pub record IsHand (deal : DealView) (hand : Hand) : Type 0 where
  pub own : All (λ seat. seat.deal ≡ deal) (seats_of hand)
  pub claim_batches : All (λ number. (deal.base ≤ number) × (number < end_of_work deal)) (claims_of hand)
  pub has_seat : length (seats_of hand) ≡ 1

-- the worker has written its SYNC packet
abbrev pub HasEnded : Hand → Type 0
HasEnded (Drawing seat) = ⊥
HasEnded (Claimed seat number) = ⊥
HasEnded (Ending spent last) = ⊥
HasEnded (Ended spent) = ⊤
HasEnded Moving = ⊥

-- A worker that had no number has drawn one of the deal: that of a batch, or its last one. A number
-- that it had stays.
abbrev pub HasClaimed : DealView → Hand → Hand → Type 0
HasClaimed deal (Drawing seat) (Claimed next number) = HasDrawn deal seat number next × (number < end_of_work deal)
HasClaimed deal (Drawing seat) (Ending spent last) = HasDrawn deal seat last spent × (end_of_work deal ≤ last)
HasClaimed deal (Drawing seat) (Drawing next) = ⊥
HasClaimed deal (Drawing seat) (Ended spent) = ⊥
HasClaimed deal (Drawing seat) Moving = ⊥
HasClaimed deal (Claimed seat number) after = after ≡ Claimed seat number
HasClaimed deal (Ending spent last) after = after ≡ Ending spent last
HasClaimed deal (Ended spent) after = after ≡ Ended spent
HasClaimed deal Moving after = after ≡ Moving

-- the worker has a number whose packet isn't written yet
abbrev pub HasNumber : Hand → Type 0
HasNumber (Drawing seat) = ⊥
HasNumber (Claimed seat number) = ⊤
HasNumber (Ending spent last) = ⊤
HasNumber (Ended spent) = ⊥
HasNumber Moving = ⊥

-- the packet of the worker's number: that of the batch that it claims, or a SYNC packet of the last
-- number
abbrev pub hand_bytes : Image → RoundTerms → Hand → List ℕ
hand_bytes image terms (Drawing seat) = []
hand_bytes image terms (Claimed seat number) = (claimed_packet terms.deal.base image terms.batches number).bytes
hand_bytes image terms (Ending spent last) = sync_packet image.table.page_size last
hand_bytes image terms (Ended spent) = []
hand_bytes image terms Moving = []

-- the batch that the worker's number claims
abbrev pub batch_in : RoundTerms → Hand → Option BatchOfPages
batch_in terms (Drawing seat) = None
batch_in terms (Claimed seat number) = Some (get_or terms.batches (number - terms.deal.base) no_batch)
batch_in terms (Ending spent last) = None
batch_in terms (Ended spent) = None
batch_in terms Moving = None

-- the worker's state after that packet is written
abbrev pub after_packet : Hand → Hand
after_packet (Drawing seat) = Drawing seat
after_packet (Claimed seat number) = Drawing seat
after_packet (Ending spent last) = Ended spent
after_packet (Ended spent) = Ended spent
after_packet Moving = Moving

-- ---- a step

-- One step: the worker has a number, and writes its packet; or, after a refused allocation, it
-- keeps that number. Once it has written its SYNC packet, a step changes nothing, and isn't
-- refused.
pub record IsStep (image : Image) (terms : RoundTerms) (made : Result (Unit {0}) NoMemory) (old new : Hand) (before after : List ℕ) : Type 0 where
  pub in_hand : Hand
  pub has_claimed : HasClaimed terms.deal old in_hand
  pub writes : OnOk made ((new ≡ after_packet in_hand) × (after ≡ before ++ hand_bytes image terms in_hand))
  pub keeps : OnErr made (HasNumber in_hand × (new ≡ in_hand) × (after ≡ before))

-- the worker has made a step, and is of the same round and channel
pub record HasStepped (image : Image) (made : Result (Unit {0}) NoMemory) (old new : ChannelWork) : Type 0 where
  pub same_terms : new.terms ≡ old.terms
  pub same_channel : new.channel ≡ old.channel
  pub is_step : IsStep image old.terms made old.hand new.hand old.text new.text

-- ---- the packets of a worker

-- The seat has drawn numbers that claim batches, and the channel has their packets after its bytes
-- before the round.
pub record HasPackedSoFar (image : Image) (terms : RoundTerms) (seat : SeatView) (before whole : List ℕ) : Type 0 where
  pub numbers : List ℕ
  pub has_drawn : seat ≡ record { deal = terms.deal; drawn = numbers }
  pub claim_batches : All (λ number. (terms.deal.base ≤ number) × (number < end_of_work terms.deal)) numbers
  pub rise : AllPairs (λ a b. a < b) numbers
  pub has_text : whole ≡ before ++ flat_map (λ number. (claimed_packet terms.deal.base image terms.batches number).bytes) numbers

-- as `HasPackedSoFar`, and the seat has drawn one number more, whose packet isn't written yet
pub record HasOneInHand (image : Image) (terms : RoundTerms) (seat : SeatView) (number : ℕ) (before whole : List ℕ) : Type 0 where
  pub earlier : SeatView
  pub has_packed : HasPackedSoFar image terms earlier before whole
  pub has_drawn : HasDrawn terms.deal earlier number seat

-- The channel has all that is sent of a share.
pub record HasPackedShare (image : Image) (terms : RoundTerms) (spent : SeatView) (before whole : List ℕ) : Type 0 where
  pub share : Share
  pub has_share : HasShare (new_seat terms.deal) spent share
  pub has_text : whole ≡ before ++ share_text terms.deal.base image terms.batches share

abbrev pub HasPackedTo : Image → RoundTerms → (before whole : List ℕ) → Hand → Type 0
HasPackedTo image terms before whole (Drawing seat) = HasPackedSoFar image terms seat before whole
HasPackedTo image terms before whole (Claimed seat number) = HasOneInHand image terms seat number before whole × (number < end_of_work terms.deal)
HasPackedTo image terms before whole (Ending spent last) = HasOneInHand image terms spent last before whole × (end_of_work terms.deal ≤ last)
HasPackedTo image terms before whole (Ended spent) = HasPackedShare image terms spent before whole
HasPackedTo image terms before whole Moving = ⊥

-- The worker has packed the batches that it drew, from the pages of this image. Its channel had
-- some bytes before the round. All of its bytes are these and those written since, drained or not.
abbrev pub HasPacked : Image → (before whole : List ℕ) → ChannelWork → Type 0
HasPacked image before whole work = HasPackedTo image work.terms before whole work.hand
