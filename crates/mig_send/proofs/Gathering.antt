-- What the workers of a round leave, one after another.
use Rattle.std.proofs.Common.{ℕ, ◌≡◌, ◌<◌, List, [], ◌∷◌, ◌++◌, length, map, get_or, suc, zero, arith, refl, sym, ap, subst, ◌∙◌, append-nil, append_assoc}
use Rattle.std.specs.Prelude.{Result, Vec, Ok, Err, IsOk, OnOk, reverse}
use Rattle.std.specs.List.{All, AllZip}
use Rattle.std.proofs.lemmas.List.{reverse-append, map_push}
use Rattle.std.proofs.lemmas.List.Elements.{All-nil, All-cons, All-head, All-tail, All-push}
use Rattle.std.proofs.lemmas.Slice.Zip.{AllZip-long}
use Rattle.mig_mem.specs.Image.{Image}
use Rattle.mig_mem.specs.declared.fault.NoMemory.{NoMemory}
use Rattle.mig_deal.specs.Deal.{DealView, SeatView, HasEachOnce, new_seat, all_drawn, end_of_deal}
use Rattle.mig_send.specs.declared.share.Written.{Written}
use Rattle.mig_send.specs.declared.workers.Slot.{Slot}
use Rattle.mig_send.specs.declared.workers.Slot.TheVariants.{Waiting, Running, Done}
use Rattle.mig_send.specs.Batches.{BatchOfPages}
use Rattle.mig_send.specs.Packing.{IsPrefix}
use Rattle.mig_send.specs.Work.{Share, HasShare}
use Rattle.mig_send.specs.Dealing.{IsDealing, share_text}
use Rattle.mig_send.specs.DealtRounds.{no_share}
use Rattle.mig_send.specs.MultiSending.{texts_of}
use Rattle.mig_send.specs.Workers.{HasWritten, IsDone, IsAnswer, HadMemory, HasSpent, CarryDealing, slot_text}
use Rattle.mig_send.proofs.Dealings.{shares_are_dealt}

-- ---- lists

-- two lists that agree place by place, and one place more
pub zip_push : {X Y : Type 0} (R : X → Y → Type 0) (xs : List X) (ys : List Y) (x : X) (y : Y) → AllZip R xs ys → R x y → AllZip R (xs ++ x ∷ []) (ys ++ y ∷ [])
zip_push R [] [] x y zip last = (last, tt)
zip_push R [] (b ∷ ys) x y zip last = absurd zip
zip_push R (a ∷ xs) [] x y zip last = absurd zip
zip_push R (a ∷ xs) (b ∷ ys) x y zip last = (zip.0, zip_push R xs ys x y zip.1 last)

-- two lists that agree at each place agree place by place
pub zip_of : {X Y : Type 0} (R : X → Y → Type 0) (xs : List X) (ys : List Y) → length xs ≡ length ys
    → ((k : ℕ) (x : X) (y : Y) → k < length ys → R (get_or xs k x) (get_or ys k y)) → AllZip R xs ys
zip_of R [] [] same each = tt
zip_of R [] (y ∷ ys) same each = absurd (omega (arith, same))
zip_of R (x ∷ xs) [] same each = absurd (omega (arith, same))
zip_of R (x ∷ xs) (y ∷ ys) same each = (each 0 x y (omega arith), zip_of R xs ys (omega (arith, same)) (λ k a b lt. each (suc k) a b (omega (arith, lt))))

-- what holds of a list that was pushed to holds of its front, and of its end
pub all_front : {X : Type 0} (P : X → Type 0) (xs : List X) (x : X) → All P (xs ++ x ∷ []) → All P xs
all_front P [] x all = λ i d lt. absurd (omega (arith, lt))
all_front P (y ∷ xs) x all = All-cons P y xs (all 0 y (omega arith)) (all_front P xs x (λ i d lt. all (suc i) d (omega (arith, lt))))

-- what holds of all members of a list holds of its last one
pub all_end : {X : Type 0} (P : X → Type 0) (xs : List X) (x : X) → All P (xs ++ x ∷ []) → P x
all_end P [] x all = all 0 x (omega arith)
all_end P (y ∷ xs) x all = all_end P xs x (λ i d lt. all (suc i) d (omega (arith, lt)))

-- the last of a list that is taken from its end is the next of the whole
pub taken : {X : Type 0} (whole front back : List X) (x : X) → whole ≡ front ++ reverse (back ++ x ∷ []) → whole ≡ (front ++ x ∷ []) ++ reverse back
taken whole front back x is =
    is ∙ (ap (λ l. front ++ l) (reverse-append back (x ∷ [])) ∙ sym (append_assoc front (x ∷ []) (reverse back)))

-- ---- the bytes and seats that go into the slots

-- with the last channel left moved to a slot, the slots and the channels left have the same bytes
pub seated_more : {A : Type 0} (olds : List (List ℕ)) (slots new_slots : List (Slot A)) (channels left : List (Vec ℕ A)) (slot : Slot A) (text : Vec ℕ A)
    → olds ≡ map slot_text slots ++ texts_of (reverse channels) → channels ≡ left ++ text ∷ [] → new_slots ≡ slots ++ slot ∷ [] → slot_text slot ≡ text.items
    → olds ≡ map slot_text new_slots ++ texts_of (reverse left)
seated_more olds slots new_slots channels left slot text is from to same =
    let front = map slot_text slots in
    is ∙ (ap (λ l. front ++ texts_of l) (ap reverse from ∙ reverse-append left (text ∷ []))
    ∙ (sym (append_assoc front (text.items ∷ []) (texts_of (reverse left)))
    ∙ ap (λ (l : List (List ℕ)). l ++ texts_of (reverse left))
    (ap (λ (t : List ℕ). front ++ t ∷ []) (sym same) ∙ (sym (map_push slot_text slots slot) ∙ ap (map slot_text) (sym to)))))

-- ---- the bytes and seats that come out of the slots

-- From the slots, but for those that are left, came channels' bytes and seats, with or without
-- memory.
pub record HaveReturned {A : Type 0} (slots left : List (Slot A)) (texts : List (Vec ℕ A)) (spents : List SeatView) (made : Result
    (Unit {0}) NoMemory) : Type 0 where
  pub done : List (Slot A)
  pub is_whole : slots ≡ done ++ reverse left
  pub have_texts : texts_of texts ≡ map slot_text done
  pub have_spents : AllZip HasSpent done spents
  pub had_memory : OnOk made (All HadMemory done)

-- before a worker has returned, all slots are left, without bytes or spent seats
pub returned_none : {A : Type 0} (slots left : List (Slot A)) (texts : List (Vec ℕ A)) (spents : List SeatView)
    → slots ≡ reverse left → texts ≡ [] → spents ≡ []
    → HaveReturned slots left texts spents (Ok tt)
returned_none {A} slots left texts spents whole no_text no_spent = record {
  done = [];
  is_whole = whole;
  have_texts = ap texts_of no_text;
  have_spents = subst (λ (l : List SeatView). AllZip (HasSpent {A = A}) [] l) (sym no_spent) tt;
  had_memory = All-nil (HadMemory {A = A});
}

-- the last slot left, if its worker is done, adds its bytes and its spent seat to those returned
pub returned_more : {A : Type 0} (slots left : List (Slot A)) (texts new_texts : List (Vec ℕ A))
    (spents new_spents : List SeatView) (made more : Result (Unit {0}) NoMemory)
    (slot : Slot A) (written : Written A) → slot ≡ Done written
    → HaveReturned slots (left ++ slot ∷ []) texts spents made → new_texts ≡ texts ++ written.text ∷ [] → new_spents ≡ spents ++ written.spent ∷ []
    → OnOk more (IsOk made × IsOk written.made) → HaveReturned slots left new_texts new_spents more
returned_more {A} slots left texts new_texts spents new_spents made more slot written is so_far with_text with_spent both = record {
  done = so_far.done ++ Done written ∷ [];
  is_whole = taken slots so_far.done left (Done written) (subst (λ (s : Slot A). slots ≡ so_far.done ++ reverse (left ++ s ∷ [])) is so_far.is_whole);
  have_texts = ap texts_of with_text ∙ (map_push (λ (text : Vec ℕ A). text.items) texts written.text
      ∙ (ap (λ (l : List (List ℕ)). l ++ written.text.items ∷ []) so_far.have_texts ∙ sym (map_push slot_text so_far.done (Done written))));
  have_spents = subst (λ (l : List SeatView). AllZip HasSpent (so_far.done ++ Done written ∷ []) l) (sym with_spent)
      (zip_push HasSpent so_far.done spents (Done written) written.spent so_far.have_spents refl);
  had_memory = memory made more so_far.had_memory both;
}
  where
    memory : (made more : Result (Unit {0}) NoMemory) → OnOk made (All HadMemory so_far.done) → OnOk more (IsOk made × IsOk written.made)
        → OnOk more (All HadMemory (so_far.done ++ Done written ∷ []))
    memory made (Err e) had both = tt
    memory (Err e) (Ok u) had both = absurd (let wrong = both.0 in cc)
    memory (Ok v) (Ok u) had both = All-push HadMemory so_far.done (Done written) had both.1

-- if no slot is left, bytes and spent seats are those of all slots, and on success all had memory
pub returned_all : {A : Type 0} (slots left : List (Slot A)) (texts : List (Vec ℕ A)) (spents : List SeatView) (made : Result (Unit {0}) NoMemory)
    → HaveReturned slots left texts spents made → length left ≡ 0
    → (texts_of texts ≡ map slot_text slots) × AllZip HasSpent slots spents × OnOk made (All HadMemory slots)
returned_all slots [] texts spents made have none =
    let whole : slots ≡ have.done = have.is_whole ∙ append-nil have.done in (
      have.have_texts ∙ ap (map slot_text) (sym whole),
      subst (λ l. AllZip HasSpent l spents) (sym whole) have.have_spents,
      subst (λ l. OnOk made (All HadMemory l)) (sym whole) have.had_memory,
    )
returned_all slots (x ∷ left) texts spents made have none = absurd (omega (arith, none))

-- ---- the dealing that they carry

-- The shares of the workers, and what their channels have of them.
pub record AreShared {A : Type 0} (deal : DealView) (image : Image) (batches : List BatchOfPages) (before : List
    (List ℕ)) (slots : List (Slot A)) (spents : List SeatView) : Type 0 where
  pub shares : List Share
  pub have_shares : AllZip (HasShare (new_seat deal)) spents shares
  pub keep_texts : AllZip IsPrefix before (map slot_text slots)
  pub have_texts : All HadMemory slots → (channel : ℕ) → channel < length before
      → get_or (map slot_text slots) channel [] ≡ get_or before channel [] ++ share_text deal.base image batches (get_or shares channel no_share)

on_ok : (made : Result (Unit {0}) NoMemory) (P : Type 0) → IsOk made → OnOk made P → P
on_ok (Ok u) P is p = p
on_ok (Err e) P is p = absurd cc

shared_more : {A : Type 0} (deal : DealView) (image : Image) (batches : List BatchOfPages) (text : List ℕ) (before : List
    (List ℕ)) (written : Written A) (slots : List (Slot A))
    (spent : SeatView) (spents : List SeatView) → HasWritten image batches (new_seat deal) text written → spent ≡ written.spent
    → AreShared deal image batches before slots spents → AreShared deal image batches (text ∷ before) (Done written ∷ slots) (spent ∷ spents)
shared_more deal image batches text before written slots spent spents has is rest = record {
  shares = has.share ∷ rest.shares;
  have_shares = (subst (λ (s : SeatView). HasShare (new_seat deal) s has.share) (sym is) has.has_share, rest.have_shares);
  keep_texts = (has.keeps_text, rest.keep_texts);
  have_texts = λ all channel lt. each all channel lt;
}
  where
    each : All HadMemory (Done written ∷ slots) → (channel : ℕ) → channel < length (text ∷ before)
        → get_or (map slot_text (Done written ∷ slots)) channel [] ≡ get_or
        (text ∷ before) channel [] ++ share_text deal.base image batches (get_or (has.share ∷ rest.shares) channel no_share)
    each all zero lt = on_ok written.made _ (All-head HadMemory (Done written) slots all) has.has_text
    each all (suc k) lt = rest.have_texts (All-tail HadMemory (Done written) slots all) k (omega (arith, lt))

-- workers that are done have a share each, and the bytes sent of it if all had memory
pub shared : {A : Type 0} (deal : DealView) (image : Image) (batches : List BatchOfPages) (before : List (List ℕ)) (slots : List
    (Slot A)) (spents : List SeatView)
    → AllZip (IsDone deal image batches) before slots → AllZip HasSpent slots spents → AreShared deal image batches before slots spents
shared deal image batches [] [] [] done spent = record {
  shares = [];
  have_shares = tt;
  keep_texts = tt;
  have_texts = λ all channel lt. absurd (omega (arith, lt));
}
shared deal image batches [] (x ∷ slots) spents done spent = absurd done
shared deal image batches (b ∷ before) [] spents done spent = absurd done
shared deal image batches [] [] (s ∷ spents) done spent = absurd spent
shared deal image batches (b ∷ before) (x ∷ slots) [] done spent = absurd spent
shared deal image batches (b ∷ before) (Done written ∷ slots) (s ∷ spents) done spent =
    shared_more deal image batches b before written slots s spents done.0 spent.0 (shared deal image batches before slots spents done.1 spent.1)
shared deal image batches (b ∷ before) (Waiting seat text ∷ slots) (s ∷ spents) done spent = absurd done.0
shared deal image batches (b ∷ before) (Running ∷ slots) (s ∷ spents) done spent = absurd done.0

-- if the deal is ended and all had memory, the channels carry a dealing
pub carried : {A : Type 0} (deal : DealView) (image : Image) (batches : List BatchOfPages)
    (before after : List (List ℕ)) (slots : List (Slot A)) (spents : List SeatView)
    (made : Result (Unit {0}) NoMemory) (base next : ℕ) → AreShared deal image batches before slots spents
    → after ≡ map slot_text slots → OnOk made (All HadMemory slots)
    → deal.base ≡ base → deal.batches ≡ length batches → deal.seats ≡ length before → length spents ≡ length before
    → next ≡ end_of_deal deal → HasEachOnce deal.base next (all_drawn spents) → OnOk made (CarryDealing base image batches before after)
carried deal image batches before after slots spents (Err e) base next are is had is_base as_many seats long end once = tt
carried deal image batches before after slots spents (Ok u) base next are is had is_base as_many seats long end once = record {
  shares = are.shares;
  is_dealing = subst (λ n. IsDealing base n are.shares) as_many (subst (λ n. IsDealing n deal.batches are.shares) is_base
      (shares_are_dealt deal spents are.shares are.have_shares (long ∙ sym seats) (subst (λ n. HasEachOnce deal.base n (all_drawn spents)) end once)));
  as_many = AllZip-long (HasShare (new_seat deal)) spents are.shares are.have_shares ∙ long;
  have_texts = λ channel lt.
      let each = are.have_texts had channel lt in
      ap (λ (l : List (List ℕ)). get_or l channel []) is
      ∙ (each ∙ ap (λ n. get_or before channel [] ++ share_text n image batches (get_or are.shares channel no_share)) is_base);
}

-- before anything is written
pub same_texts : (texts : List (List ℕ)) → AllZip IsPrefix texts texts
same_texts [] = tt
same_texts (t ∷ texts) = (record { rest = []; is_text = sym (append-nil t) }, same_texts texts)

-- if the worker of each slot is done, each slot has a result
pub all_answers : {A : Type 0} (deal : DealView) (image : Image) (batches : List BatchOfPages) (before : List (List ℕ)) (slots : List (Slot A))
    → AllZip (IsDone deal image batches) before slots → All IsAnswer slots
all_answers deal image batches [] [] done = All-nil IsAnswer
all_answers deal image batches [] (x ∷ slots) done = absurd done
all_answers deal image batches (b ∷ before) [] done = absurd done
all_answers deal image batches (b ∷ before) (Done written ∷ slots) done =
    All-cons IsAnswer (Done written) slots tt (all_answers deal image batches before slots done.1)
all_answers deal image batches (b ∷ before) (Waiting seat text ∷ slots) done = absurd done.0
all_answers deal image batches (b ∷ before) (Running ∷ slots) done = absurd done.0

-- the seats are all the deal's
pub own_spents : (deal : DealView) (spents : List SeatView) (shares : List Share)
    → AllZip (HasShare (new_seat deal)) spents shares → All (λ (spent : SeatView). spent.deal ≡ deal) spents
own_spents deal [] [] zip = λ i d lt. absurd (omega (arith, lt))
own_spents deal [] (x ∷ shares) zip = absurd zip
own_spents deal (s ∷ spents) [] zip = absurd zip
own_spents deal (s ∷ spents) (x ∷ shares) zip =
    All-cons (λ (spent : SeatView). spent.deal ≡ deal) s spents (ap (λ (spent : SeatView). spent.deal) zip.0.has_drawn) (own_spents deal spents shares zip.1)
