-- A worker's draws, one after another.
use Rattle.std.proofs.Common.{ℕ, ◌≡◌, ◌<◌, ◌≤◌, ◌-◌, List, [], ◌∷◌, ◌++◌, length, map, get_or, refl}
use Rattle.std.proofs.Common.{sym, ap, ◌∙◌, arith, suc, subst, IfOk, append_assoc}
use Rattle.std.specs.Prelude.{Result, Vec, Ok, Err, IsOk, OnOk, flat_map}
use Rattle.std.specs.List.{All, AllPairs}
use Rattle.std.proofs.lemmas.List.{append-nil, get_or_default, map-append}
use Rattle.std.proofs.lemmas.List.Elements.{All-push}
use Rattle.std.proofs.lemmas.List.Quantifiers.{all_pairs_push}
use Rattle.std.proofs.lemmas.Grind.{flat_map-append}
use Rattle.mig_mem.specs.Image.{Image}
use Rattle.mig_mem.specs.declared.fault.NoMemory.{NoMemory}
use Rattle.mig_deal.specs.Deal.{DealView, SeatView, IsNext, with_number, end_of_work, end_of_deal}
use Rattle.mig_deal.specs.Drawn.{HasDrawn}
use Rattle.mig_send.specs.Batches.{BatchOfPages}
use Rattle.mig_send.specs.Packing.{PackedBatch, IsPrefix, packed_of}
use Rattle.mig_send.specs.declared.share.Written.{Written}
use Rattle.mig_send.specs.declared.sink.Filled.{Filled}
use Rattle.mig_send.specs.Work.{HasShare, HasWorked, claimed_packet, no_batch}
use Rattle.mig_send.specs.Sink.{HasFilled, claimed_entries}
use Rattle.mig_send.specs.Dealing.{sync_packet}
use Rattle.mig_send.specs.Workers.{HasWritten}

-- ---- the draws

-- as `HasShare`, before the last draw
pub record HasDrawnSoFar (first seat : SeatView) (numbers : List ℕ) : Type 0 where
  pub has_deal : seat.deal ≡ first.deal
  pub has_drawn : seat.drawn ≡ first.drawn ++ numbers
  pub claim_batches : All (λ number. (first.deal.base ≤ number) × (number < end_of_work first.deal)) numbers
  pub rise : AllPairs (λ a b. a < b) numbers

drawn_none : (seat : SeatView) → HasDrawnSoFar seat seat []
drawn_none seat = record {
  has_deal = refl;
  has_drawn = sym (append-nil seat.drawn);
  claim_batches = λ i d lt. absurd (omega arith);
  rise = λ i j d before within. absurd (omega arith);
}

-- what holds of all of two lists holds of the second
all_behind : (front back : List ℕ) (P : ℕ → Type 0) → All P (front ++ back) → All P back
all_behind [] back P all = all
all_behind (x ∷ front) back P all = all_behind front back P (λ i d lt. all (suc i) d (omega arith))

drawn_more : (deal : DealView) (first before after : SeatView) (number : ℕ) (numbers : List ℕ) → HasDrawnSoFar first before numbers → first.deal ≡ deal
    → after ≡ with_number before number → IsNext deal.base before.drawn number → number < end_of_work deal
    → HasDrawnSoFar first after (numbers ++ number ∷ [])
drawn_more deal first before after number numbers so_far own appended next is_work =
    let from : deal.base ≤ number = omega (arith, next.far) in
    record {
      has_deal = ap (λ (seat : SeatView). seat.deal) appended ∙ so_far.has_deal;
      has_drawn = ap (λ (seat : SeatView). seat.drawn) appended
          ∙ (ap (λ xs. xs ++ number ∷ []) so_far.has_drawn ∙ append_assoc first.drawn numbers (number ∷ []));
      claim_batches = All-push (λ n. (first.deal.base ≤ n) × (n < end_of_work first.deal)) numbers number so_far.claim_batches
          (subst (λ (d : DealView). (d.base ≤ number) × (number < end_of_work d)) (sym own) (from, is_work));
      rise = all_pairs_push (λ a b. a < b) numbers number so_far.rise
          (all_behind first.drawn numbers (λ n. n < number) (subst (All (λ n. n < number)) so_far.has_drawn next.above));
    }

drawn_last : (deal : DealView) (first before spent : SeatView) (numbers : List ℕ) (last : ℕ) → HasDrawnSoFar first before numbers → first.deal ≡ deal
    → HasDrawn deal before last spent → end_of_work deal ≤ last → HasShare first spent record { numbers = numbers; last = last }
drawn_last deal first before spent numbers last so_far own drawn no_work = record {
  has_drawn = drawn.appended ∙ (ap (λ (d : DealView). record { deal = d; drawn = before.drawn ++ last ∷ [] }) so_far.has_deal
      ∙ ap (λ (xs : List ℕ). record { deal = first.deal; drawn = xs ++ last ∷ [] }) so_far.has_drawn);
  claim_batches = so_far.claim_batches;
  rise = so_far.rise;
  claims_none = subst (λ (d : DealView). (end_of_work d ≤ last) × (last < end_of_deal d)) (sym own) (no_work, drawn.within);
}

-- the batch that a number claims is that of its packet
claims : (image : Image) (batches : List BatchOfPages) (deal : DealView) (first before : SeatView) (number : ℕ) (batch : BatchOfPages) → first.deal ≡ deal
    → length batches ≡ deal.batches → IsNext deal.base before.drawn number → number < end_of_work deal → batch ≡ get_or batches (number - deal.base) batch
    → packed_of image batch number ≡ claimed_packet first.deal.base image batches number
claims image batches deal first before number batch own as_many next is_work is =
    let from : deal.base ≤ number = omega (arith, next.far) in
    let in_list : number - deal.base < length batches = omega (arith, from, is_work, as_many) in
    ap (λ (b : BatchOfPages). packed_of image b number) (is ∙ get_or_default batches (number - deal.base) batch no_batch in_list)
    ∙ ap (λ (d : DealView). claimed_packet d.base image batches number) (sym own)

-- ---- what it adds to its sink

-- as `HasFilled`, before the last draw
pub record HasFilledSoFar {E : Type 0} (entries : PackedBatch → List E) (image : Image) (batches : List BatchOfPages) (first seat : SeatView)
    (before after : List E) (made : Result (Unit {0}) NoMemory) : Type 0 where
  pub numbers : List ℕ
  pub have_drawn : HasDrawnSoFar first seat numbers
  pub keeps : IsPrefix before after
  pub has_packets : OnOk made (after ≡ before ++ claimed_entries entries first.deal.base image batches numbers)

prefix_more : {E : Type 0} (before some after : List E) → IsPrefix before some → IsPrefix some after → IsPrefix before after
prefix_more before some after front more = record {
  rest = front.rest ++ more.rest;
  is_text = more.is_text ∙ (ap (λ l. l ++ more.rest) front.is_text ∙ append_assoc before front.rest more.rest);
}

-- a list goes on from where it was, as long as there was memory
list_more : {E : Type 0} (before mid some rest after : List E) (made more : Result (Unit {0}) NoMemory) → OnOk made (some ≡ before ++ mid)
    → OnOk more (IsOk made) → OnOk more (after ≡ some ++ rest) → OnOk more (after ≡ before ++ (mid ++ rest))
list_more before mid some rest after made (Err e) has was added = tt
list_more before mid some rest after (Err e) (Ok u) has was added = absurd cc
list_more before mid some rest after (Ok v) (Ok u) has was added = added ∙ (ap (λ l. l ++ rest) has ∙ append_assoc before mid rest)

-- the entries of one packet more
entries_more : {E : Type 0} (entries : PackedBatch → List E) (f : ℕ → PackedBatch) (numbers : List ℕ) (number : ℕ)
    → flat_map entries (map f (numbers ++ number ∷ [])) ≡ flat_map entries (map f numbers) ++ entries (f number)
entries_more entries f numbers number =
    ap (flat_map entries) (map-append f numbers (number ∷ []))
    ∙ (flat_map-append entries (map f numbers) (f number ∷ []) ∙ ap (λ l. flat_map entries (map f numbers) ++ l) (append-nil (entries (f number))))

-- a seat that has drawn nothing since has filled the sink with nothing more
pub filled_none : {E : Type 0} (entries : PackedBatch → List E) (image : Image) (batches : List BatchOfPages) (seat : SeatView) (before : List E)
    → HasFilledSoFar entries image batches seat seat before before (Ok tt)
filled_none entries image batches seat before = record {
  numbers = [];
  have_drawn = drawn_none seat;
  keeps = record { rest = []; is_text = sym (append-nil before) };
  has_packets = sym (append-nil before);
}

-- a seat that draws a batch's number more fills the sink with that batch's packet more
pub filled_more : {E : Type 0} (entries : PackedBatch → List E) (image : Image) (batches : List BatchOfPages) (deal : DealView) (first seat after : SeatView)
    (number : ℕ) (batch : BatchOfPages) (before some new : List E) (made more : Result (Unit {0}) NoMemory)
    → HasFilledSoFar entries image batches first seat before some made → first.deal ≡ deal → length batches ≡ deal.batches
    → after ≡ with_number seat number → IsNext deal.base seat.drawn number → number < end_of_work deal
    → batch ≡ get_or batches (number - deal.base) batch
    → OnOk more (IsOk made) → OnOk more (new ≡ some ++ entries (packed_of image batch number)) → IsPrefix some new
    → HasFilledSoFar entries image batches first after before new more
filled_more entries image batches deal first seat after number batch before some new made more so_far own as_many appended next is_work is was added prefix =
    let packet : ℕ → PackedBatch = claimed_packet first.deal.base image batches in
    let same = claims image batches deal first seat number batch own as_many next is_work is in
    record {
      numbers = so_far.numbers ++ number ∷ [];
      have_drawn = drawn_more deal first seat after number so_far.numbers so_far.have_drawn own appended next is_work;
      keeps = prefix_more before some new so_far.keeps prefix;
      has_packets = subst (λ l. OnOk more (new ≡ before ++ l)) (sym (entries_more entries packet so_far.numbers number))
          (list_more before (flat_map entries (map packet so_far.numbers)) some (entries (packet number)) new made more so_far.has_packets was
          (subst (λ (p : PackedBatch). OnOk more (new ≡ some ++ entries p)) same added));
    }

-- a seat that draws its last number has filled the sink with the packets of its share
pub filled_last : {E : Type 0} (entries : PackedBatch → List E) (image : Image) (batches : List BatchOfPages) (deal : DealView) (first seat : SeatView)
    (before after : List E) (filled : Filled)
    → HasFilledSoFar entries image batches first seat before after filled.made → first.deal ≡ deal
    → HasDrawn deal seat filled.last filled.spent → end_of_work deal ≤ filled.last → HasFilled entries image batches first before after filled
filled_last entries image batches deal first seat before after filled so_far own drawn no_work = record {
  share = record { numbers = so_far.numbers; last = filled.last };
  has_share = drawn_last deal first seat filled.spent so_far.numbers filled.last so_far.have_drawn own drawn no_work;
  has_last = refl;
  keeps = so_far.keeps;
  has_packets = so_far.has_packets;
}

-- ---- its packets in a list

each_alone : (packets : List PackedBatch) → flat_map (λ packet. packet ∷ []) packets ≡ packets
each_alone [] = refl
each_alone (p ∷ packets) = ap (λ l. p ∷ l) (each_alone packets)

packets_of : {A : Type 0} (f : ℕ → PackedBatch) (numbers : List ℕ) (packets : Vec PackedBatch A) (made : Result (Unit {0}) NoMemory)
    (all : Result (Vec PackedBatch A) NoMemory) → OnOk made (packets.items ≡ flat_map (λ packet. packet ∷ []) (map f numbers))
    → IfOk all (λ some. IsOk made × (some ≡ packets)) → IfOk all (λ some. some.items ≡ map f numbers)
packets_of f numbers packets made (Err e) has are = tt
packets_of f numbers packets (Err e) (Ok some) has are = absurd (let no = are.0 in cc)
packets_of f numbers packets (Ok v) (Ok some) has are = ap (λ v. v.items) are.1 ∙ (has ∙ each_alone (map f numbers))

-- a worker that filled an empty list with its share's packets, and returns that list, has worked
pub worked_of : {A : Type 0} (image : Image) (batches : List BatchOfPages) (seat : SeatView) (packets : Vec PackedBatch A) (filled : Filled)
    (all : Result (Vec PackedBatch A) NoMemory) (before : List PackedBatch) → before ≡ []
    → HasFilled (λ packet. packet ∷ []) image batches seat before packets.items filled
    → IfOk all (λ some. IsOk filled.made × (some ≡ packets))
    → HasWorked image batches seat record { packets = all; last = filled.last; spent = filled.spent }
worked_of image batches seat packets filled all before none is are = record {
  share = is.share;
  has_share = is.has_share;
  has_last = is.has_last;
  has_packets = packets_of (claimed_packet seat.deal.base image batches) is.share.numbers packets filled.made all
      (subst (λ (b : List PackedBatch). OnOk filled.made (packets.items ≡ b ++ flat_map (λ packet. packet ∷ [])
      (map (claimed_packet seat.deal.base image batches) is.share.numbers))) none is.has_packets) are;
}

-- ---- or the bytes that it writes

bytes_of : (f : ℕ → PackedBatch) (numbers : List ℕ) → flat_map (λ packet. packet.bytes) (map f numbers) ≡ flat_map (λ number. (f number).bytes) numbers
bytes_of f [] = refl
bytes_of f (n ∷ numbers) = ap (λ l. (f n).bytes ++ l) (bytes_of f numbers)

-- a worker that filled its bytes with packets, and added a SYNC packet, has written its share
pub written_of : {A : Type 0} (image : Image) (batches : List BatchOfPages) (seat : SeatView) (before some : List ℕ) (filled : Filled) (written : Written A)
    → HasFilled (λ packet. packet.bytes) image batches seat before some filled → written.spent ≡ filled.spent
    → OnOk written.made (IsOk filled.made) → OnOk written.made (written.text.items ≡ some ++ sync_packet image.table.page_size filled.last)
    → IsPrefix some written.text.items → HasWritten image batches seat before written
written_of image batches seat before some filled written is spent was added prefix =
    let packet : ℕ → PackedBatch = claimed_packet seat.deal.base image batches in
    record {
      share = is.share;
      has_share = subst (λ (s : SeatView). HasShare seat s is.share) (sym spent) is.has_share;
      keeps_text = prefix_more before some written.text.items is.keeps prefix;
      has_text = subst (λ (l : List ℕ). OnOk written.made (written.text.items ≡ before ++ l))
          (ap (λ l. l ++ sync_packet image.table.page_size filled.last) (bytes_of packet is.share.numbers)
          ∙ ap (λ last. flat_map (λ number. (packet number).bytes) is.share.numbers ++ sync_packet image.table.page_size last) is.has_last)
          (list_more before (flat_map (λ p. p.bytes) (map packet is.share.numbers)) some
          (sync_packet image.table.page_size filled.last) written.text.items filled.made written.made
          is.has_packets was added);
    }
