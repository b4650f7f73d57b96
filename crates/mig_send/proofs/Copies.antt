-- The packet of a step depends on the pages of its batch, and on no other page of its memory.
use Rattle.std.proofs.Common.{ℕ, ◌≡◌, ◌-◌, ◌<◌, ◌≤◌, ◌∙◌, ◌==◌, List, [], ◌∷◌, ◌++◌, length, get_or, cond, refl, sym, ap, subst, arith, inl, inr}
use Rattle.std.specs.Prelude.{Result, Ok, Err, OnOk, OnErr}
use Rattle.std.specs.List.{All}
use Rattle.std.proofs.lemmas.Bool.{cases_Bool, cond-true, cond-false, eqb-true, eq-eqb}
use Rattle.std.proofs.lemmas.List.{length-map, get_or-map}
use Rattle.std.proofs.lemmas.List.Elements.{All-get_or, All-from_get_or, All-head, All-tail}
use Rattle.mig_mem.specs.declared.place.Place.{Place}
use Rattle.mig_mem.specs.declared.fault.NoMemory.{NoMemory}
use Rattle.mig_mem.specs.RamTable.{RamTable, block}
use Rattle.mig_mem.specs.Place.{place_at}
use Rattle.mig_mem.specs.Image.{Page, Image, content_at, pages_of}
use Rattle.mig_mem.specs.Round.{round_of}
use Rattle.mig_mem.proofs.Members.{map_agree}
use Rattle.mig_deal.specs.Deal.{SeatView, times, end_of_work}
use Rattle.mig_deal.proofs.Counts.{count_by-cons, count_by-append}
use Rattle.mig_send.specs.declared.channel_worker.Hand.{Hand}
use Rattle.mig_send.specs.declared.channel_worker.Hand.TheVariants.{Drawing, Claimed, Ending, Ended, Moving}
use Rattle.mig_send.specs.Batches.{BatchOfPages, batch_places}
use Rattle.mig_send.specs.Packing.{PackedBatch, packed_of, packet_of}
use Rattle.mig_send.specs.Work.{no_batch}
use Rattle.mig_send.specs.Dealing.{sync_packet}
use Rattle.mig_send.specs.ChannelWork.{RoundTerms, ChannelWork, IsHand, HasClaimed, HasPackedTo, IsStep, HasStepped, hand_bytes, after_packet}
use Rattle.mig_send.specs.Copies.{HasPagesOf, HasPagesBelow, HasPagesPacked, HasPagesRead, PacksPages, with_memory}
use Rattle.mig_send.proofs.Stepping.{claimed_packed, step_packed}

-- ---- one packet of several memories

abbrev page_in : Image → Place → Page
page_in m p = record { place = p; content = content_at m p }

-- memories that agree at the pages of a batch make one packet of it
pub same_packet : (a b : Image) (batch : BatchOfPages) (number : ℕ) → a.table ≡ b.table → All (λ p. content_at a p ≡ content_at b p) (batch_places batch)
    → packed_of a batch number ≡ packed_of b batch number
unfolding pages_of
same_packet a b batch number tables agree =
    let rounds : round_of a (batch_places batch) ≡ round_of b (batch_places batch) =
    map_agree (page_in a) (page_in b) (batch_places batch)
    (All-from_get_or (λ p. page_in a p ≡ page_in b p) (batch_places batch) (place_at batch.block 0) (λ i lt.
    ap (λ (l : List ℕ). record { place = get_or (batch_places batch) i (place_at batch.block 0); content = l })
    (All-get_or (λ p. content_at a p ≡ content_at b p) (batch_places batch) i (place_at batch.block 0) lt agree))) in
    ap (λ (t : RamTable). record {
      page_size = t.page_size;
      number = number;
      bytes = packet_of t.page_size number (block t.blocks batch.block).id (round_of a (batch_places batch));
    }) tables
    ∙ ap (λ (r : List Page). record {
      page_size = b.table.page_size;
      number = number;
      bytes = packet_of b.table.page_size number (block b.table.blocks batch.block).id r;
    }) rounds

-- an image with a memory's pages agrees with it at each place of the batch
pub pages_agree : (image memory : Image) (batch : BatchOfPages) → HasPagesOf image batch memory
    → All (λ p. content_at memory p ≡ content_at image p) (batch_places batch)
pages_agree image memory batch has =
    All-from_get_or (λ p. content_at memory p ≡ content_at image p) (batch_places batch) (place_at batch.block 0) (λ i lt.
    let within : i < length batch.pages = omega (arith, lt, length-map batch.pages (place_at batch.block)) in
    let at = get_or-map (place_at batch.block) batch.pages i 0 (place_at batch.block 0) within in
    subst (λ (p : Place). content_at memory p ≡ content_at image p) (sym at) (sym (has i within)))

hand_agrees : (image memory : Image) (terms : RoundTerms) (hand : Hand) → memory.table ≡ terms.table → HasPagesRead memory terms hand image
    → hand_bytes memory terms hand ≡ hand_bytes image terms hand
hand_agrees image memory terms (Drawing seat) of_table has = refl
hand_agrees image memory terms (Claimed seat number) of_table has =
    let batch : BatchOfPages = get_or terms.batches (number - terms.deal.base) no_batch in
    ap (λ (p : PackedBatch). p.bytes) (same_packet memory image batch number (of_table ∙ sym has.same_table) (pages_agree image memory batch has.has_pages))
hand_agrees image memory terms (Ending spent last) of_table has = ap (λ (t : RamTable). sync_packet t.page_size last) (of_table ∙ sym has.same_table)
hand_agrees image memory terms (Ended spent) of_table has = refl
hand_agrees image memory terms Moving of_table has = refl

-- a step from a memory is one from each image that has the pages which it reads
step_of : (image memory : Image) (terms : RoundTerms) (made : Result (Unit {0}) NoMemory) (old new : Hand) (before after : List ℕ) → memory.table ≡ terms.table
    → (step : IsStep memory terms made old new before after) → HasPagesRead memory terms step.in_hand image → IsStep image terms made old new before after
step_of image memory terms (Ok u) old new before after of_table step has = record {
  in_hand = step.in_hand;
  has_claimed = step.has_claimed;
  writes = (step.writes.0, step.writes.1 ∙ ap (λ (l : List ℕ). before ++ l) (hand_agrees image memory terms step.in_hand of_table has));
  keeps = step.keeps;
}
step_of image memory terms (Err e) old new before after of_table step has = record {
  in_hand = step.in_hand;
  has_claimed = step.has_claimed;
  writes = step.writes;
  keeps = step.keeps;
}

-- ---- the numbers that were drawn

drawn_too : (k : ℕ) (xs ys : List ℕ) → 0 < times k xs → 0 < times k (xs ++ ys)
drawn_too k xs ys has = omega (arith, has, count_by-append (λ other. other == k) xs ys)

drawn_now : (k : ℕ) (xs : List ℕ) → 0 < times k (xs ++ k ∷ [])
drawn_now k xs =
    omega (arith, count_by-append (λ other. other == k) xs (k ∷ []), count_by-cons (λ other. other == k) k [], cond-true {A = ℕ} (k == k) 1 0 (eq-eqb k k refl))

drawn_below : (k n : ℕ) (xs : List ℕ) → All (λ x. x < n) xs → 0 < times k xs → k < n
drawn_below k n [] all has = absurd (omega (arith, has))
drawn_below k n (x ∷ xs) all has = elim (cases_Bool (x == k)) [
  | inl here ↦ omega (arith, eqb-true x k here, All-head (λ y. y < n) x xs all)
  | inr other ↦ drawn_below k n xs (All-tail (λ y. y < n) x xs all)
      (omega (arith, has, count_by-cons (λ y. y == k) x xs, cond-false {A = ℕ} (x == k) 1 0 other))
]

-- ---- what a worker packed, of each of several memories

-- a draw packs nothing
claims_none : (image : Image) (terms : RoundTerms) (memories : ℕ → Image) (old in_hand : Hand) → HasClaimed terms.deal old in_hand
    → HasPagesPacked image terms memories in_hand → HasPagesPacked image terms memories old
claims_none image terms memories (Drawing seat) (Claimed next number) has pages = λ k drawn below.
    pages k (subst (λ (s : SeatView). 0 < times k s.drawn) (sym has.0.appended) (drawn_too k seat.drawn (number ∷ []) drawn))
    (drawn_below k number seat.drawn has.0.next.above drawn)
claims_none image terms memories (Drawing seat) (Ending spent last) has pages = λ k drawn below.
    pages k (subst (λ (s : SeatView). 0 < times k s.drawn) (sym has.0.appended) (drawn_too k seat.drawn (last ∷ []) drawn)) below
claims_none image terms memories (Drawing seat) (Drawing next) has pages = absurd has
claims_none image terms memories (Drawing seat) (Ended spent) has pages = absurd has
claims_none image terms memories (Drawing seat) Moving has pages = absurd has
claims_none image terms memories (Claimed seat number) in_hand has pages = subst (HasPagesPacked image terms memories) has pages
claims_none image terms memories (Ending spent last) in_hand has pages = subst (HasPagesPacked image terms memories) has pages
claims_none image terms memories (Ended spent) in_hand has pages = subst (HasPagesPacked image terms memories) has pages
claims_none image terms memories Moving in_hand has pages = tt

-- a worker that claims a number keeps what it has packed, of each image that has the packed pages
pub claims_each : (memories : ℕ → Image) (terms : RoundTerms) (before whole : List ℕ) (old in_hand : Hand) → HasClaimed terms.deal old in_hand
    → ((image : Image) → image.table ≡ terms.table → HasPagesPacked image terms memories old → HasPackedTo image terms before whole old)
    → (image : Image) → image.table ≡ terms.table → HasPagesPacked image terms memories in_hand → HasPackedTo image terms before whole in_hand
claims_each memories terms before whole old in_hand has packed image same pages =
    claimed_packed image terms before whole old in_hand has (packed image same (claims_none image terms memories old in_hand has pages))

-- the worker's number claims a batch, or none
IsWork : RoundTerms → Hand → Type 0
IsWork terms (Drawing seat) = Unit {0}
IsWork terms (Claimed seat number) = number < end_of_work terms.deal
IsWork terms (Ending spent last) = Unit {0}
IsWork terms (Ended spent) = Unit {0}
IsWork terms Moving = Unit {0}

claims_work : (terms : RoundTerms) (old in_hand : Hand) → IsHand terms.deal old → HasClaimed terms.deal old in_hand → IsWork terms in_hand
unfolding IsWork
claims_work terms (Drawing seat) (Claimed next number) is has = has.1
claims_work terms (Drawing seat) (Ending spent last) is has = tt
claims_work terms (Drawing seat) (Drawing next) is has = absurd has
claims_work terms (Drawing seat) (Ended spent) is has = absurd has
claims_work terms (Drawing seat) Moving is has = absurd has
claims_work terms (Claimed seat number) in_hand is has = subst (IsWork terms) (sym has) (is.claim_batches 0 number (omega arith)).1
claims_work terms (Ending spent last) in_hand is has = subst (IsWork terms) (sym has) tt
claims_work terms (Ended spent) in_hand is has = subst (IsWork terms) (sym has) tt
claims_work terms Moving in_hand is has = subst (IsWork terms) (sym has) tt

-- below the number in hand the memories stay
stay_below : (image memory : Image) (terms : RoundTerms) (memories : ℕ → Image) (seat : SeatView) (number bound : ℕ) → number ≤ bound
    → HasPagesBelow bound image terms seat (λ other. cond (other == number) memory (memories other)) → HasPagesBelow number image terms seat memories
stay_below image memory terms memories seat number bound least pages = λ k drawn below.
    subst (HasPagesOf image (get_or terms.batches (k - terms.deal.base) no_batch))
    (cond-false (k == number) memory (memories k) (elim (cases_Bool (k == number)) [
      | inl same ↦ absurd (omega (arith, below, eqb-true k number same))
      | inr other ↦ other
    ]))
    (pages k drawn (omega (arith, below, least)))

-- the pages that were packed before the step
earlier_pages : (image memory : Image) (terms : RoundTerms) (memories : ℕ → Image) (in_hand : Hand) → IsWork terms in_hand
    → HasPagesPacked image terms (with_memory in_hand memory memories) (after_packet in_hand) → HasPagesPacked image terms memories in_hand
unfolding IsWork
earlier_pages image memory terms memories (Drawing seat) work pages = pages
earlier_pages image memory terms memories (Claimed seat number) work pages =
    stay_below image memory terms memories seat number (end_of_work terms.deal) (omega (arith, work)) pages
earlier_pages image memory terms memories (Ending spent last) work pages = pages
earlier_pages image memory terms memories (Ended spent) work pages = pages
earlier_pages image memory terms memories Moving work pages = tt

-- they are all if it is refused
kept_pages : (image memory : Image) (terms : RoundTerms) (memories : ℕ → Image) (in_hand : Hand)
    → HasPagesPacked image terms (with_memory in_hand memory memories) in_hand
    → HasPagesPacked image terms memories in_hand
kept_pages image memory terms memories (Drawing seat) pages = pages
kept_pages image memory terms memories (Claimed seat number) pages = stay_below image memory terms memories seat number number (omega arith) pages
kept_pages image memory terms memories (Ending spent last) pages = pages
kept_pages image memory terms memories (Ended spent) pages = pages
kept_pages image memory terms memories Moving pages = tt

-- the pages that the step reads
read_pages : (image memory : Image) (terms : RoundTerms) (memories : ℕ → Image) (before whole : List ℕ) (in_hand : Hand) → image.table ≡ terms.table
    → HasPackedTo image terms before whole in_hand → HasPagesPacked image terms (with_memory in_hand memory memories) (after_packet in_hand)
    → HasPagesRead memory terms in_hand image
read_pages image memory terms memories before whole (Drawing seat) same packed pages = record { same_table = same; has_pages = tt }
read_pages image memory terms memories before whole (Claimed seat number) same packed pages =
    let one = packed.0 in
    let batch : BatchOfPages = get_or terms.batches (number - terms.deal.base) no_batch in
    let drawn : 0 < times number seat.drawn =
    subst (λ (s : SeatView). 0 < times number s.drawn) (sym one.has_drawn.appended) (drawn_now number one.earlier.drawn) in
    record {
      same_table = same;
      has_pages = subst (HasPagesOf image batch) (cond-true (number == number) memory (memories number) (eq-eqb number number refl))
          (pages number drawn packed.1);
    }
read_pages image memory terms memories before whole (Ending spent last) same packed pages = record { same_table = same; has_pages = tt }
read_pages image memory terms memories before whole (Ended spent) same packed pages = record { same_table = same; has_pages = tt }
read_pages image memory terms memories before whole Moving same packed pages = record { same_table = same; has_pages = tt }

-- the packets so far, after a step
stepped_each : (image memory : Image) (terms : RoundTerms) (memories : ℕ → Image) (made : Result (Unit {0}) NoMemory)
    (old new : Hand) (old_text new_text before drained : List ℕ)
    → image.table ≡ terms.table → memory.table ≡ terms.table → IsHand terms.deal old → (step : IsStep memory terms made old new old_text new_text)
    → (HasPagesPacked image terms memories old → HasPackedTo image terms before (drained ++ old_text) old)
    → HasPagesPacked image terms (with_memory step.in_hand memory memories) new → HasPackedTo image terms before (drained ++ new_text) new
stepped_each image memory terms memories (Ok u) old new old_text new_text before drained same of_table is step each pages =
    let now = subst (HasPagesPacked image terms (with_memory step.in_hand memory memories)) step.writes.0 pages in
    let earlier = earlier_pages image memory terms memories step.in_hand (claims_work terms old step.in_hand is step.has_claimed) now in
    let packed = each (claims_none image terms memories old step.in_hand step.has_claimed earlier) in
    let read = read_pages image memory terms memories before (drained ++ old_text) step.in_hand same
    (claimed_packed image terms before (drained ++ old_text) old step.in_hand step.has_claimed packed) now in
    step_packed image terms (Ok u) old new old_text new_text before drained
    (step_of image memory terms (Ok u) old new old_text new_text of_table step read) packed
stepped_each image memory terms memories (Err e) old new old_text new_text before drained same of_table is step each pages =
    let earlier = kept_pages image memory terms memories step.in_hand
    (subst (HasPagesPacked image terms (with_memory step.in_hand memory memories)) step.keeps.1 pages) in
    let packed = each (claims_none image terms memories old step.in_hand step.has_claimed earlier) in
    step_packed image terms (Err e) old new old_text new_text before drained
    (record { in_hand = step.in_hand; has_claimed = step.has_claimed; writes = tt; keeps = step.keeps }) packed

-- ---- the step

step_writes : (memory : Image) (made : Result (Unit {0}) NoMemory) (old new : ChannelWork) → memory.table ≡ old.terms.table
    → (step : IsStep memory old.terms made old.hand new.hand old.text new.text)
    → OnOk made ((new.hand ≡ after_packet step.in_hand)
    × ((image : Image) → HasPagesRead memory old.terms step.in_hand image → new.text ≡ old.text ++ hand_bytes image old.terms step.in_hand))
step_writes memory (Ok u) old new of_table step = (
  step.writes.0,
  λ image has. step.writes.1 ∙ ap (λ (l : List ℕ). old.text ++ l) (hand_agrees image memory old.terms step.in_hand of_table has),
)
step_writes memory (Err e) old new of_table step = tt

step_keeps : (memory : Image) (made : Result (Unit {0}) NoMemory) (old new : ChannelWork)
    → (step : IsStep memory old.terms made old.hand new.hand old.text new.text)
    → OnErr made ((new.hand ≡ step.in_hand) × (new.text ≡ old.text))
step_keeps memory (Ok u) old new step = tt
step_keeps memory (Err e) old new step = (step.keeps.1, step.keeps.2)

-- a step from a memory of the round's table packs that memory's pages of the claimed batch alone
pub packs_pages : (memory : Image) (made : Result (Unit {0}) NoMemory) (old new : ChannelWork) → memory.table ≡ old.terms.table → IsHand old.terms.deal old.hand
    → HasStepped memory made old new → PacksPages memory made old new
packs_pages memory made old new of_table is stepped =
    let step = stepped.is_step in
    let terms = sym stepped.same_terms in
    record {
      in_hand = step.in_hand;
      has_claimed = step.has_claimed;
      writes = step_writes memory made old new of_table step;
      keeps = step_keeps memory made old new step;
      packed = λ image before drained has packed.
          subst (λ (t : RoundTerms). HasPackedTo image t before (drained ++ new.text) new.hand) terms
          (step_packed image old.terms made old.hand new.hand old.text new.text before drained
          (step_of image memory old.terms made old.hand new.hand old.text new.text of_table step has) packed);
      packed_each = λ memories before drained each.
          subst (λ (t : RoundTerms). (image : Image) → image.table ≡ t.table → HasPagesPacked image t (with_memory step.in_hand memory memories) new.hand
          → HasPackedTo image t before (drained ++ new.text) new.hand) terms
          (λ image same pages. stepped_each image memory old.terms memories made old.hand new.hand old.text new.text before
          drained same of_table is step (each image same) pages);
    }
