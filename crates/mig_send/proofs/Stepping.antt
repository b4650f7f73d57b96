-- A worker that its caller steps: what its channel has packed stays so at each step.
use Rattle.std.proofs.Common.{ℕ, ◌<◌, ◌≤◌, List, [], ◌∷◌, ◌++◌, sym, ap, subst, ◌∙◌, arith, append-nil, append_assoc}
use Rattle.std.specs.Prelude.{Result, Ok, Err, flat_map}
use Rattle.std.specs.List.{All}
use Rattle.std.proofs.lemmas.List.Elements.{All-push}
use Rattle.std.proofs.lemmas.List.Quantifiers.{all_pairs_push}
use Rattle.std.proofs.lemmas.Grind.{flat_map-append}
use Rattle.mig_mem.specs.Image.{Image}
use Rattle.mig_mem.specs.declared.fault.NoMemory.{NoMemory}
use Rattle.mig_deal.specs.Deal.{SeatView, with_number, end_of_work}
use Rattle.mig_send.specs.declared.channel_worker.Hand.{Hand}
use Rattle.mig_send.specs.declared.channel_worker.Hand.TheVariants.{Drawing, Claimed, Ending, Ended, Moving}
use Rattle.mig_send.specs.Work.{claimed_packet}
use Rattle.mig_send.specs.Dealing.{sync_packet}
use Rattle.mig_send.specs.ChannelWork.{RoundTerms, HasClaimed, HasPackedSoFar, HasOneInHand, HasPackedShare, HasPackedTo, IsStep, hand_bytes, after_packet}

-- ---- what is packed

-- a draw leaves what is packed
pub claimed_packed : (image : Image) (terms : RoundTerms) (before whole : List ℕ) (old in_hand : Hand) → HasClaimed terms.deal old in_hand
    → HasPackedTo image terms before whole old → HasPackedTo image terms before whole in_hand
claimed_packed image terms before whole (Drawing seat) (Claimed next number) has packed =
    (record { earlier = seat; has_packed = packed; has_drawn = has.0 }, has.1)
claimed_packed image terms before whole (Drawing seat) (Ending spent last) has packed =
    (record { earlier = seat; has_packed = packed; has_drawn = has.0 }, has.1)
claimed_packed image terms before whole (Drawing seat) (Drawing next) has packed = absurd has
claimed_packed image terms before whole (Drawing seat) (Ended spent) has packed = absurd has
claimed_packed image terms before whole (Drawing seat) Moving has packed = absurd has
claimed_packed image terms before whole (Claimed seat number) in_hand has packed = subst (HasPackedTo image terms before whole) (sym has) packed
claimed_packed image terms before whole (Ending spent last) in_hand has packed = subst (HasPackedTo image terms before whole) (sym has) packed
claimed_packed image terms before whole (Ended spent) in_hand has packed = subst (HasPackedTo image terms before whole) (sym has) packed
claimed_packed image terms before whole Moving in_hand has packed = absurd packed

-- one packet more
packet_more : (image : Image) (terms : RoundTerms) (before whole : List ℕ) (seat : SeatView) (number : ℕ) → HasOneInHand image terms seat number before whole
    → number < end_of_work terms.deal
    → HasPackedSoFar image terms seat before (whole ++ (claimed_packet terms.deal.base image terms.batches number).bytes)
packet_more image terms before whole seat number one is_work =
    let so_far = one.has_packed in
    let drawn = one.has_drawn in
    let f : ℕ → List ℕ = λ n. (claimed_packet terms.deal.base image terms.batches n).bytes in
    let from : terms.deal.base ≤ number = omega (arith, drawn.next.far) in
    record {
      numbers = so_far.numbers ++ number ∷ [];
      has_drawn = drawn.appended ∙ ap (λ (s : SeatView). with_number s number) so_far.has_drawn;
      claim_batches = All-push (λ n. (terms.deal.base ≤ n) × (n < end_of_work terms.deal)) so_far.numbers number so_far.claim_batches (from, is_work);
      rise = all_pairs_push (λ a b. a < b) so_far.numbers number so_far.rise
          (subst (All (λ n. n < number)) (ap (λ (s : SeatView). s.drawn) so_far.has_drawn) drawn.next.above);
      has_text = ap (λ (l : List ℕ). l ++ f number) so_far.has_text
          ∙ append_assoc before (flat_map f so_far.numbers) (f number)
          ∙ ap (λ (l : List ℕ). before ++ l) (ap (λ (l : List ℕ). flat_map f so_far.numbers ++ l) (sym (append-nil (f number)))
          ∙ sym (flat_map-append f so_far.numbers (number ∷ [])));
    }

-- the SYNC packet
share_ends : (image : Image) (terms : RoundTerms) (before whole : List ℕ) (spent : SeatView) (last : ℕ) → HasOneInHand image terms spent last before whole
    → end_of_work terms.deal ≤ last
    → HasPackedShare image terms spent before (whole ++ sync_packet image.table.page_size last)
share_ends image terms before whole spent last one no_work =
    let so_far = one.has_packed in
    let drawn = one.has_drawn in
    let f : ℕ → List ℕ = λ n. (claimed_packet terms.deal.base image terms.batches n).bytes in
    record {
      share = record { numbers = so_far.numbers; last = last };
      has_share = record {
        has_drawn = drawn.appended ∙ ap (λ (s : SeatView). with_number s last) so_far.has_drawn;
        claim_batches = so_far.claim_batches;
        rise = so_far.rise;
        claims_none = (no_work, drawn.within);
      };
      has_text = ap (λ (l : List ℕ). l ++ sync_packet image.table.page_size last) so_far.has_text
          ∙ append_assoc before (flat_map f so_far.numbers) (sync_packet image.table.page_size last);
    }

-- the current packet is written
written_packed : (image : Image) (terms : RoundTerms) (before whole : List ℕ) (in_hand : Hand) → HasPackedTo image terms before whole in_hand
    → HasPackedTo image terms before (whole ++ hand_bytes image terms in_hand) (after_packet in_hand)
written_packed image terms before whole (Drawing seat) packed = subst (λ (l : List ℕ). HasPackedSoFar image terms seat before l) (sym (append-nil whole)) packed
written_packed image terms before whole (Claimed seat number) packed = packet_more image terms before whole seat number packed.0 packed.1
written_packed image terms before whole (Ending spent last) packed = share_ends image terms before whole spent last packed.0 packed.1
written_packed image terms before whole (Ended spent) packed = subst (λ (l : List ℕ). HasPackedShare image terms spent before l) (sym (append-nil whole)) packed
written_packed image terms before whole Moving packed = absurd packed

-- what a worker has packed so far is still so after a step, with the same bytes drained
pub step_packed : (image : Image) (terms : RoundTerms) (made : Result (Unit {0}) NoMemory) (old new : Hand) (old_text new_text before drained : List ℕ)
    → IsStep image terms made old new old_text new_text → HasPackedTo image terms before (drained ++ old_text) old
    → HasPackedTo image terms before (drained ++ new_text) new
step_packed image terms (Ok u) old new old_text new_text before drained step packed =
    let bytes = hand_bytes image terms step.in_hand in
    let now = written_packed image terms before (drained ++ old_text) step.in_hand
    (claimed_packed image terms before (drained ++ old_text) old step.in_hand step.has_claimed packed) in
    subst (λ (h : Hand). HasPackedTo image terms before (drained ++ new_text) h) (sym step.writes.0)
    (subst (λ (l : List ℕ). HasPackedTo image terms before l (after_packet step.in_hand))
    (append_assoc drained old_text bytes ∙ ap (λ (l : List ℕ). drained ++ l) (sym step.writes.1)) now)
step_packed image terms (Err e) old new old_text new_text before drained step packed =
    let now = claimed_packed image terms before (drained ++ old_text) old step.in_hand step.has_claimed packed in
    subst (λ (h : Hand). HasPackedTo image terms before (drained ++ new_text) h) (sym step.keeps.1)
    (subst (λ (l : List ℕ). HasPackedTo image terms before (drained ++ l) step.in_hand) (sym step.keeps.2) now)
