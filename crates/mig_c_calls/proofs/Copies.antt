-- The packet of a batch, of contents that C passes for its pages.
use Rattle.std.proofs.Common.{ℕ, ◌≡◌, ◌≢◌, ◌-◌, ◌<◌, ◌≤◌, ◌∙◌, ◌==◌, List, [], ◌++◌, length, get_or, Bool, true, false, refl, sym, ap, subst}
use Rattle.std.proofs.Common.{arith, inl, inr, Option, Some, None, Bor}
use Rattle.std.specs.Prelude.{Result, Ok, Err, IsOk, IsTrue, ◌||◌, ◌∷◌, nat_lt}
use Rattle.std.specs.List.{All, position, position_or_len}
use Rattle.std.specs.Option.{unwrap_or}
use Rattle.std.proofs.lemmas.Bool.{cases_lt, cond-true, cond-false, lt-ltb, le-ltb, eqb-true, eq-eqb}
use Rattle.std.proofs.lemmas.List.{length-map, get_or-map}
use Rattle.std.proofs.lemmas.List.Elements.{All-get_or, All-from_get_or}
use Rattle.std.proofs.lemmas.List.Sums.{passes_at_first, fails_before_first}
use Rattle.mig_mem.specs.declared.place.Place.{Place}
use Rattle.mig_mem.specs.declared.fault.NoMemory.{NoMemory}
use Rattle.mig_mem.specs.RamTable.{RamTable}
use Rattle.mig_mem.specs.Place.{IsPlace, place_at}
use Rattle.mig_mem.specs.Image.{Image, IsImage, content_at}
use Rattle.mig_mem.proofs.Images.{image_from, content_at-image_of}
use Rattle.mig_mem.specs.PageSize.{IsPageSize}
use Rattle.mig_mem.specs.Lent.{lent_bytes}
use Rattle.mig_packet.specs.PageSize.{page_limit}
use Rattle.mig_send.specs.declared.channel_worker.Hand.{Hand}
use Rattle.mig_send.specs.declared.channel_worker.Hand.TheVariants.{Drawing, Claimed, Ending, Ended, Moving}
use Rattle.mig_send.specs.Batches.{BatchOfPages, batch_places}
use Rattle.mig_send.specs.Packing.{PackedBatch, packed_of}
use Rattle.mig_send.specs.Work.{no_batch}
use Rattle.mig_send.specs.Dealing.{sync_packet}
use Rattle.mig_send.specs.ChannelWork.{RoundTerms, ChannelWork, HasClaimed, HasPackedTo, IsStep, hand_bytes, after_packet, batch_in}
use Rattle.mig_send.proofs.Stepping.{step_packed}
use Rattle.mig_send.proofs.Copies.{same_packet}
use Rattle.mig_c_calls.specs.Status.{IsOneOf, done, running, no_memory, bad_length, out_of_turn}
use Rattle.mig_c_calls.specs.Copied.{HasCopied, HasPages, HasBatch, OfClaim, content_of, index_in, copied_image}

-- ---- where a page stands

-- the first element that passes a test, where one does
first_of : (p : ℕ → Bool) (xs : List ℕ) (i d : ℕ) → i < length xs → p (get_or xs i d) ≡ true
    → (n : ℕ) × (position p xs ≡ Some n) × (n < length xs) × (p (get_or xs n d) ≡ true)
first_of p xs i d within passes = elim (cases_lt (position_or_len p xs) (length xs)) [
  | inl lt ↦ (
    position_or_len p xs,
    cond-true (nat_lt (position_or_len p xs) (length xs)) (Some (position_or_len p xs)) None (lt-ltb (position_or_len p xs) (length xs) lt),
    lt,
    passes_at_first p xs d lt,
  )
  | inr ge ↦ absurd (let fails = fails_before_first p xs i d (omega (arith, within, ge)) in cc)
]

-- a page of a batch stands where its number does
pub index_at : (pages : List ℕ) (i : ℕ) → i < length pages
    → (index_in pages (get_or pages i 0) < length pages) × (get_or pages (index_in pages (get_or pages i 0)) 0 ≡ get_or pages i 0)
index_at pages i within =
    let page : ℕ = get_or pages i 0 in
    let first = first_of (λ other. other == page) pages i 0 within (eq-eqb page page refl) in
    let here : index_in pages page ≡ first.0 = ap (λ (o : Option ℕ). unwrap_or o 0) first.1 in (
      subst (λ (n : ℕ). n < length pages) (sym here) first.2,
      ap (λ (n : ℕ). get_or pages n 0) here ∙ eqb-true (get_or pages first.0 0) page first.3,
    )

-- every page has an index that is one of a batch's
within_of : (pages : List ℕ) (page : ℕ) (r : Option ℕ) → position (λ other. other == page) pages ≡ r → 0 < length pages → unwrap_or r 0 < length pages
within_of pages page None is some = some
within_of pages page (Some n) is some = elim (cases_lt (position_or_len (λ other. other == page) pages) (length pages)) [
  | inl lt ↦
      let at : position (λ other. other == page) pages ≡ Some (position_or_len (λ other. other == page) pages) =
      cond-true (nat_lt (position_or_len (λ other. other == page) pages) (length pages)) (Some (position_or_len (λ other. other == page) pages)) None
      (lt-ltb (position_or_len (λ other. other == page) pages) (length pages) lt) in
      subst (λ (o : Option ℕ). unwrap_or o 0 < length pages) (sym at ∙ is) lt
  | inr ge ↦
      let none : position (λ other. other == page) pages ≡ None =
      cond-false (nat_lt (position_or_len (λ other. other == page) pages) (length pages)) (Some (position_or_len (λ other. other == page) pages)) None
      (le-ltb (position_or_len (λ other. other == page) pages) (length pages) ge) in
      absurd (let other = sym none ∙ is in cc)
]

-- the index of any page among one page at least is below their number
pub index_within : (pages : List ℕ) (page : ℕ) → 0 < length pages → index_in pages page < length pages
index_within pages page some = within_of pages page (position (λ other. other == page) pages) refl some

-- a batch has 128 pages at most
pub few_pages : (size : ℕ) → IsPageSize size → page_limit size ≤ 128
few_pages size is = elim is [
  | inl e ↦ subst (λ (n : ℕ). page_limit n ≤ 128) (sym e) (omega arith)
  | inr e ↦ subst (λ (n : ℕ). page_limit n ≤ 128) (sym e) (omega arith)
]

-- ---- the memory that contents make

-- a content that C passes
pub lent_content : (contents : List (Bor (List ℕ))) (i : ℕ) (d : Bor (List ℕ)) → i < length contents
    → content_of (lent_bytes contents) i ≡ (get_or contents i d).now
lent_content contents i d lt = get_or-map (λ (b : Bor (List ℕ)). b.now) contents i d [] lt

-- there is a content of a page for each page of the table
pub content_len : (table : RamTable) (pages : List ℕ) (contents : List (List ℕ)) (page : ℕ) → HasPages table pages contents
    → length (content_of contents (index_in pages page)) ≡ table.page_size
content_len table pages contents page has = has.fits.are_whole (index_in pages page) (index_within pages page has.has_some)

-- the memory that such contents make has a page's bytes at each place of the table
pub copied_is_image : (table : RamTable) (pages : List ℕ) (contents : List (List ℕ)) → HasPages table pages contents
    → IsImage (copied_image table pages contents)
copied_is_image table pages contents has =
    image_from table (λ place. content_of contents (index_in pages place.page)) (λ p is. content_len table pages contents p.page has)

-- at each place that memory has the content with the index of the place's page
pub copied_content : (table : RamTable) (pages : List ℕ) (contents : List (List ℕ)) (p : Place) → IsPlace table p
    → content_at (copied_image table pages contents) p ≡ content_of contents (index_in pages p.page)
copied_content table pages contents p is =
    content_at-image_of table (λ place. content_of contents (index_in pages place.page)) p is

-- at the pages of the batch it agrees with each memory that has them
pub copied_agrees : (image : Image) (table : RamTable) (batch : BatchOfPages) (contents : List (List ℕ))
    → All (IsPlace table) (batch_places batch) → HasCopied image batch contents
    → All (λ p. content_at (copied_image table batch.pages contents) p ≡ content_at image p) (batch_places batch)
copied_agrees image table batch contents are copied =
    All-from_get_or (λ p. content_at (copied_image table batch.pages contents) p ≡ content_at image p) (batch_places batch) (place_at batch.block 0) (λ i lt.
    let within : i < length batch.pages = omega (arith, lt, length-map batch.pages (place_at batch.block)) in
    let page : ℕ = get_or batch.pages i 0 in
    let at : get_or (batch_places batch) i (place_at batch.block 0) ≡ place_at batch.block page =
    get_or-map (place_at batch.block) batch.pages i 0 (place_at batch.block 0) within in
    let is : IsPlace table (place_at batch.block page) =
    subst (IsPlace table) at (All-get_or (IsPlace table) (batch_places batch) i (place_at batch.block 0) lt are) in
    let index = index_at batch.pages i within in
    let j : ℕ = index_in batch.pages page in
    let has : content_at image (place_at batch.block page) ≡ content_of contents j =
    ap (λ (n : ℕ). content_at image (place_at batch.block n)) (sym index.1) ∙ copied j index.0 in
    subst (λ (p : Place). content_at (copied_image table batch.pages contents) p ≡ content_at image p) (sym at)
    (copied_content table batch.pages contents (place_at batch.block page) is ∙ sym has))

-- ---- the worker's number

-- a worker that draws nothing stays as it is
pub stays : (terms : RoundTerms) (hand in_hand : Hand) → HasClaimed terms.deal hand hand → HasClaimed terms.deal hand in_hand → in_hand ≡ hand
stays terms (Drawing seat) in_hand is has = absurd is
stays terms (Claimed seat number) in_hand is has = has
stays terms (Ending spent last) in_hand is has = has
stays terms (Ended spent) in_hand is has = has
stays terms Moving in_hand is has = has

-- where a worker's hand holds no batch, the bytes it has to write are the same for two memories of
-- one table
pub same_sync : (a b : Image) (terms : RoundTerms) (hand : Hand) → a.table ≡ b.table → batch_in terms hand ≡ None
    → hand_bytes a terms hand ≡ hand_bytes b terms hand
same_sync a b terms (Drawing seat) same none = refl
same_sync a b terms (Claimed seat number) same none = absurd cc
same_sync a b terms (Ending spent last) same none = ap (λ (t : RamTable). sync_packet t.page_size last) same
same_sync a b terms (Ended spent) same none = refl
same_sync a b terms Moving same none = refl

-- a step from one memory is one from another that makes the same packet
pub step_of : (a b : Image) (terms : RoundTerms) (made : Result (Unit {0}) NoMemory) (old new : Hand) (before after : List ℕ) → HasClaimed terms.deal old old
    → hand_bytes a terms old ≡ hand_bytes b terms old → IsStep a terms made old new before after → IsStep b terms made old new before after
step_of a b terms (Ok u) old new before after drawn same step =
    let is : step.in_hand ≡ old = stays terms old step.in_hand drawn step.has_claimed in
    record {
      in_hand = step.in_hand;
      has_claimed = step.has_claimed;
      writes = (
        step.writes.0,
        step.writes.1 ∙ ap (λ (h : Hand). before ++ hand_bytes a terms h) is ∙ ap (λ (l : List ℕ). before ++ l) same
            ∙ ap (λ (h : Hand). before ++ hand_bytes b terms h) (sym is),
      );
      keeps = step.keeps;
    }
step_of a b terms (Err e) old new before after drawn same step = record {
  in_hand = step.in_hand;
  has_claimed = step.has_claimed;
  writes = step.writes;
  keeps = step.keeps;
}

-- ---- the SYNC packet

-- a step without a batch, from any memory of the same table, leaves the channel packed as from the
-- other memory
pub end_packed : (a b : Image) (terms : RoundTerms) (made : Result (Unit {0}) NoMemory) (old new : Hand)
    (old_text new_text before drained : List ℕ) → a.table ≡ b.table
    → batch_in terms old ≡ None → HasClaimed terms.deal old old → IsStep a terms made old new old_text new_text
    → HasPackedTo b terms before (drained ++ old_text) old
    → HasPackedTo b terms before (drained ++ new_text) new
end_packed a b terms made old new old_text new_text before drained same none drawn step packed =
    step_packed b terms made old new old_text new_text before drained
    (step_of a b terms made old new old_text new_text drawn (same_sync a b terms old same none) step) packed

-- ---- the packet of a batch

-- another fact of the batch
pub map_claim : (Holds Others : BatchOfPages → ℕ → Type 0) (terms : RoundTerms) (hand : Hand)
    → ((batch : BatchOfPages) (number : ℕ) → Holds batch number → Others batch number)
    → OfClaim Holds terms hand → OfClaim Others terms hand
map_claim Holds Others terms (Drawing seat) next of = of
map_claim Holds Others terms (Claimed seat number) next of = next (get_or terms.batches (number - terms.deal.base) no_batch) number of
map_claim Holds Others terms (Ending spent last) next of = of
map_claim Holds Others terms (Ended spent) next of = of
map_claim Holds Others terms Moving next of = of

-- a worker that has a batch draws no other number
pub claimed_stays : (terms : RoundTerms) (hand : Hand) → OfClaim (λ batch number. Unit {0}) terms hand → HasClaimed terms.deal hand hand
claimed_stays terms (Drawing seat) of = absurd of
claimed_stays terms (Claimed seat number) of = refl
claimed_stays terms (Ending spent last) of = absurd of
claimed_stays terms (Ended spent) of = absurd of
claimed_stays terms Moving of = absurd of

-- the packet of the copy is that of each memory that has the pages
copied_packet : (image : Image) (table : RamTable) (pages : List ℕ) (contents : List (List ℕ)) (batch : BatchOfPages) (number : ℕ)
    → image.table ≡ table → HasBatch table pages contents batch
    → HasCopied image batch contents → packed_of (copied_image table pages contents) batch number ≡ packed_of image batch number
copied_packet image table pages contents batch number same has copied =
    ap (λ (l : List ℕ). packed_of (copied_image table l contents) batch number) has.same_pages
    ∙ same_packet (copied_image table batch.pages contents) image batch number (sym same)
    (copied_agrees image table batch contents has.is_batch.has_places copied)

copied_bytes : (image : Image) (terms : RoundTerms) (pages : List ℕ) (contents : List (List ℕ)) (hand : Hand) → image.table ≡ terms.table
    → OfClaim (λ batch number. HasBatch terms.table pages contents batch) terms hand → OfClaim (λ batch number. HasCopied image batch contents) terms hand
    → hand_bytes (copied_image terms.table pages contents) terms hand ≡ hand_bytes image terms hand
copied_bytes image terms pages contents (Drawing seat) same has copied = absurd has
copied_bytes image terms pages contents (Claimed seat number) same has copied =
    ap (λ (p : PackedBatch). p.bytes)
    (copied_packet image terms.table pages contents (get_or terms.batches (number - terms.deal.base) no_batch) number same has copied)
copied_bytes image terms pages contents (Ending spent last) same has copied = absurd has
copied_bytes image terms pages contents (Ended spent) same has copied = absurd has
copied_bytes image terms pages contents Moving same has copied = absurd has

-- a step on a claimed batch from the memory of these contents leaves the channel packed as from a
-- memory that has them at the batch's pages
pub copied_packed : (image : Image) (terms : RoundTerms) (pages : List ℕ) (contents : List (List ℕ)) (made : Result (Unit {0}) NoMemory)
    (old new : Hand) (old_text new_text before drained : List ℕ)
    → image.table ≡ terms.table → OfClaim (λ batch number. HasBatch terms.table pages contents batch) terms old
    → OfClaim (λ batch number. HasCopied image batch contents) terms old
    → IsStep (copied_image terms.table pages contents) terms made old new old_text new_text → HasPackedTo image terms before (drained ++ old_text) old
    → HasPackedTo image terms before (drained ++ new_text) new
copied_packed image terms pages contents made old new old_text new_text before drained same has copied step packed =
    let drawn : HasClaimed terms.deal old old =
    claimed_stays terms old (map_claim (λ batch number. HasCopied image batch contents) (λ batch number. Unit {0}) terms old (λ _ _ _. tt) copied) in
    step_packed image terms made old new old_text new_text before drained
    (step_of (copied_image terms.table pages contents) image terms made old new old_text new_text drawn
    (copied_bytes image terms pages contents old same has copied) step) packed

-- what a step that isn't refused writes
pub copied_writes : (image : Image) (terms : RoundTerms) (pages : List ℕ) (contents : List (List ℕ)) (made : Result (Unit {0}) NoMemory)
    (old new : Hand) (old_text new_text : List ℕ)
    → image.table ≡ terms.table → IsOk made → OfClaim (λ batch number. HasBatch terms.table pages contents batch) terms old
    → IsStep (copied_image terms.table pages contents) terms made old new old_text new_text
    → OfClaim (λ batch number. HasCopied image batch contents → new_text ≡ old_text ++ (packed_of image batch number).bytes) terms old
copied_writes image terms pages contents (Err e) old new old_text new_text same ok has step = absurd cc
copied_writes image terms pages contents (Ok u) (Drawing seat) new old_text new_text same ok has step = has
copied_writes image terms pages contents (Ok u) (Claimed seat number) new old_text new_text same ok has step = λ copied.
    let batch : BatchOfPages = get_or terms.batches (number - terms.deal.base) no_batch in
    step.writes.1
    ∙ ap (λ (h : Hand). old_text ++ hand_bytes (copied_image terms.table pages contents) terms h) step.has_claimed
    ∙ ap (λ (p : PackedBatch). old_text ++ p.bytes) (copied_packet image terms.table pages contents batch number same has copied)
copied_writes image terms pages contents (Ok u) (Ending spent last) new old_text new_text same ok has step = has
copied_writes image terms pages contents (Ok u) (Ended spent) new old_text new_text same ok has step = has
copied_writes image terms pages contents (Ok u) Moving new old_text new_text same ok has step = has

-- the worker's number after a step: its packet is written, or it is the same
pub step_hand : (image : Image) (terms : RoundTerms) (made : Result (Unit {0}) NoMemory) (old new : Hand)
    (old_text new_text : List ℕ) → HasClaimed terms.deal old old
    → IsStep image terms made old new old_text new_text → (IsOk made → new ≡ after_packet old) × ((IsOk made → ⊥) → (new ≡ old) × (new_text ≡ old_text))
step_hand image terms (Ok u) old new old_text new_text drawn step =
    (λ _. step.writes.0 ∙ ap after_packet (stays terms old step.in_hand drawn step.has_claimed), λ no. absurd (no refl))
step_hand image terms (Err e) old new old_text new_text drawn step =
    (λ ok. absurd cc, λ _. (step.keeps.1 ∙ stays terms old step.in_hand drawn step.has_claimed, step.keeps.2))

-- two workers with the same terms, channel, hand and bytes are equal
pub same_worker : (a b : ChannelWork) → a.terms ≡ b.terms → a.channel ≡ b.channel → a.hand ≡ b.hand → a.text ≡ b.text → a ≡ b
same_worker a b terms channel hand text =
    ap (λ (t : RoundTerms). record { terms = t; channel = a.channel; hand = a.hand; text = a.text }) terms
    ∙ ap (λ (n : ℕ). record { terms = b.terms; channel = n; hand = a.hand; text = a.text }) channel
    ∙ ap (λ (h : Hand). record { terms = b.terms; channel = b.channel; hand = h; text = a.text }) hand
    ∙ ap (λ (l : List ℕ). record { terms = b.terms; channel = b.channel; hand = b.hand; text = l }) text

-- ---- statuses

ends_or : (a b n : Bool) → IsTrue (a || (b || false)) → IsTrue (a || (n || (b || false)))
ends_or true b n is = refl
ends_or false true true is = refl
ends_or false true false is = refl
ends_or false false n is = absurd cc

-- done or no_memory is one of done, running and no_memory
pub ends_named : (status : ℕ) → IsOneOf (done ∷ no_memory ∷ []) status → IsOneOf (done ∷ running ∷ no_memory ∷ []) status
ends_named status is = ends_or (done == status) (no_memory == status) (running == status) is

-- done or no_memory isn't running
pub no_batch_then : (status : ℕ) → IsOneOf (done ∷ no_memory ∷ []) status → status ≢ running
no_batch_then status is bad = absurd (let no : IsOneOf (done ∷ no_memory ∷ []) running = subst (IsOneOf (done ∷ no_memory ∷ [])) bad is in cc)

packs_or : (a b n m : Bool) → IsTrue (a || (b || false)) → IsTrue (a || (b || (n || (m || false))))
packs_or true b n m is = refl
packs_or false true n m is = refl
packs_or false false n m is = absurd cc

-- running or no_memory is one of running, no_memory, bad_length and out_of_turn
pub packs_named : (status : ℕ) → IsOneOf (running ∷ no_memory ∷ []) status → IsOneOf (running ∷ no_memory ∷ bad_length ∷ out_of_turn ∷ []) status
packs_named status is = packs_or (running == status) (no_memory == status) (bad_length == status) (out_of_turn == status) is

-- running or no_memory isn't out_of_turn
pub packs_in_turn : (status : ℕ) → IsOneOf (running ∷ no_memory ∷ []) status → status ≢ out_of_turn
packs_in_turn status is bad = absurd (let no : IsOneOf (running ∷ no_memory ∷ []) out_of_turn = subst (IsOneOf (running ∷ no_memory ∷ [])) bad is in cc)

-- running or no_memory isn't bad_length
pub packs_fit : (status : ℕ) → IsOneOf (running ∷ no_memory ∷ []) status → status ≢ bad_length
packs_fit status is bad = absurd (let no : IsOneOf (running ∷ no_memory ∷ []) bad_length = subst (IsOneOf (running ∷ no_memory ∷ [])) bad is in cc)
