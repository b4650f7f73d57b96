-- The shares of all workers are a dealing.
use Rattle.std.proofs.Common.{ℕ, ◌⊎◌, ◌≡◌, ◌<◌, ◌≤◌, ◌+◌, List, [], ◌∷◌, ◌++◌, length, map, refl, ap, ◌∙◌, inl, inr, arith, zero, cond, ◌==◌}
use Rattle.std.specs.Prelude.{flat_map}
use Rattle.std.specs.List.{All, AllPairs, AllZip}
use Rattle.std.proofs.lemmas.Bool.Decides.{nat_tests}
use Rattle.std.proofs.lemmas.List.Concat.{flat_map-cons}
use Rattle.std.proofs.lemmas.List.Folds.{flat_map-map}
use Rattle.std.proofs.lemmas.List.Elements.{All-nil, All-cons, All-head, All-tail}
use Rattle.std.proofs.lemmas.Slice.Zip.{AllZip-long}
use Rattle.std.proofs.lemmas.List.{length-map}
use Rattle.std.proofs.lemmas.Result.{IfOk-weaker}
use Rattle.mig_deal.specs.Deal.{DealView, SeatView, HasEachOnce, times, new_seat, all_drawn, end_of_work, end_of_deal}
use Rattle.mig_deal.proofs.Counts.{count_by-append, count_by-cons}
use Rattle.mig_send.specs.Work.{Share, HasShare}
use Rattle.mig_mem.specs.Image.{Image}
use Rattle.mig_send.specs.declared.worker.Worked.{Worked}
use Rattle.mig_send.specs.Batches.{BatchOfPages}
use Rattle.mig_send.specs.Packing.{PackedBatch}
use Rattle.mig_send.specs.Work.{HasWorked, claimed_packet}
use Rattle.mig_send.specs.Dealing.{IsDealing, WorkersMakeADealing, IsSent, sync_packet, share_text, answer_text}

abbrev numbers_of : List Share → List ℕ
numbers_of shares = flat_map (λ (share : Share). share.numbers) shares

abbrev lasts_of : List Share → List ℕ
lasts_of shares = map (λ (share : Share). share.last) shares

abbrev AreShares : DealView → List SeatView → List Share → Type 0
AreShares deal spents shares = AllZip (HasShare (new_seat deal)) spents shares

-- what all have drawn is what claims batches, and the last ones
split : (n : ℕ) (deal : DealView) (spents : List SeatView) (shares : List Share) → AreShares deal spents shares
    → times n (all_drawn spents) ≡ times n (numbers_of shares) + times n (lasts_of shares)
split n deal [] [] zip = refl
split n deal [] (x ∷ shares) zip = absurd zip
split n deal (s ∷ spents) [] zip = absurd zip
split n deal (s ∷ spents) (x ∷ shares) zip =
    let drawn : s.drawn ≡ x.numbers ++ x.last ∷ [] = ap (λ (seat : SeatView). seat.drawn) zip.0.has_drawn in
    let all : times n (all_drawn (s ∷ spents)) ≡ times n s.drawn + times n (all_drawn spents) =
    ap (times n) (flat_map-cons (λ (seat : SeatView). seat.drawn) s spents) ∙ count_by-append (λ other. other == n) s.drawn (all_drawn spents) in
    let own : times n s.drawn ≡ times n x.numbers + times n (x.last ∷ []) =
    ap (times n) drawn ∙ count_by-append (λ other. other == n) x.numbers (x.last ∷ []) in
    let work : times n (numbers_of (x ∷ shares)) ≡ times n x.numbers + times n (numbers_of shares) =
    ap (times n) (flat_map-cons (λ (share : Share). share.numbers) x shares) ∙ count_by-append (λ other. other == n) x.numbers (numbers_of shares) in
    let last : times n (lasts_of (x ∷ shares)) ≡ times n (x.last ∷ []) + times n (lasts_of shares) =
    count_by-append (λ other. other == n) (x.last ∷ []) (lasts_of shares) in
    omega (arith, all, own, work, last, split n deal spents shares zip.1)

-- a number out of a range isn't in a list of numbers of that range
abbrev IsOutOf : ℕ → ℕ → ℕ → Type 0
IsOutOf low high n = (n < low) ⊎ (high ≤ n)

abbrev AreIn : ℕ → ℕ → List ℕ → Type 0
AreIn low high numbers = All (λ number. (low ≤ number) × (number < high)) numbers

is_other : (low high n x : ℕ) → (low ≤ x) × (x < high) → IsOutOf low high n → cond (x == n) 1 zero ≡ zero
is_other low high n x within (inl below) = let from = within.0 in grind (arith, nat_tests)
is_other low high n x within (inr above) = let to = within.1 in grind (arith, nat_tests)

none : (low high n : ℕ) (numbers : List ℕ) → AreIn low high numbers → IsOutOf low high n → times n numbers ≡ 0
none low high n [] all out = refl
none low high n (x ∷ numbers) all out =
    omega (
      arith,
      count_by-cons (λ other. other == n) x numbers,
      is_other low high n x (All-head (λ number. (low ≤ number) × (number < high)) x numbers all) out,
      none low high n numbers (All-tail (λ number. (low ≤ number) × (number < high)) x numbers all) out,
    )

none_work : (n : ℕ) (deal : DealView) (spents : List SeatView) (shares : List Share) → AreShares deal spents shares → IsOutOf deal.base (end_of_work deal) n
    → times n (numbers_of shares) ≡ 0
none_work n deal [] [] zip out = refl
none_work n deal [] (x ∷ shares) zip out = absurd zip
none_work n deal (s ∷ spents) [] zip out = absurd zip
none_work n deal (s ∷ spents) (x ∷ shares) zip out =
    ap (times n) (flat_map-cons (λ (share : Share). share.numbers) x shares)
    ∙ omega (
      arith,
      count_by-append (λ other. other == n) x.numbers (numbers_of shares),
      none deal.base (end_of_work deal) n x.numbers zip.0.claim_batches out,
      none_work n deal spents shares zip.1 out,
    )

lasts_in : (deal : DealView) (spents : List SeatView) (shares : List Share) → AreShares deal spents shares
    → AreIn (end_of_work deal) (end_of_deal deal) (lasts_of shares)
lasts_in deal [] [] zip = All-nil (λ number. (end_of_work deal ≤ number) × (number < end_of_deal deal))
lasts_in deal [] (x ∷ shares) zip = absurd zip
lasts_in deal (s ∷ spents) [] zip = absurd zip
lasts_in deal (s ∷ spents) (x ∷ shares) zip =
    All-cons (λ number. (end_of_work deal ≤ number) × (number < end_of_deal deal)) x.last (lasts_of shares) zip.0.claims_none
    (lasts_in deal spents shares zip.1)

all_rise : (deal : DealView) (spents : List SeatView) (shares : List Share) → AreShares deal spents shares
    → All (λ (share : Share). AllPairs (λ a b. a < b) share.numbers) shares
all_rise deal [] [] zip = All-nil (λ (share : Share). AllPairs (λ a b. a < b) share.numbers)
all_rise deal [] (x ∷ shares) zip = absurd zip
all_rise deal (s ∷ spents) [] zip = absurd zip
all_rise deal (s ∷ spents) (x ∷ shares) zip =
    All-cons (λ (share : Share). AllPairs (λ a b. a < b) share.numbers) x shares zip.0.rise (all_rise deal spents shares zip.1)

-- Spent seats' shares are a dealing: where the seats had drawn nothing, are as many as the deal
-- has, and together drew each number once.
pub shares_are_dealt : (deal : DealView) (spents : List SeatView) (shares : List Share) → AllZip (HasShare (new_seat deal)) spents shares
    → length spents ≡ deal.seats → HasEachOnce deal.base (end_of_deal deal) (all_drawn spents) → IsDealing deal.base deal.batches shares
shares_are_dealt deal spents shares zip many once =
    let long : length shares ≡ length spents = AllZip-long (HasShare (new_seat deal)) spents shares zip in
    let end : end_of_work deal + length shares ≡ end_of_deal deal = omega (arith, long, many) in
    let lasts = lasts_in deal spents shares zip in
    record {
      has_batches = record {
        once = λ n from to. omega (
          arith,
          split n deal spents shares zip,
          once.once n from (omega (arith, to)),
          none (end_of_work deal) (end_of_deal deal) n (lasts_of shares) lasts (inl to),
        );
        none_below = λ n below. none_work n deal spents shares zip (inl below);
        none_above = λ n above. none_work n deal spents shares zip (inr above);
      };
      has_lasts = record {
        once = λ n from to. omega (
          arith,
          split n deal spents shares zip,
          once.once n (omega (arith, from)) (omega (arith, to, end)),
          none_work n deal spents shares zip (inr from),
        );
        none_below = λ n below. none (end_of_work deal) (end_of_deal deal) n (lasts_of shares) lasts (inl below);
        none_above = λ n above. none (end_of_work deal) (end_of_deal deal) n (lasts_of shares) lasts (inr (omega (arith, above, end)));
      };
      rise = all_rise deal spents shares zip;
    }

-- ---- what is sent

-- the shares that the answers are of
record Told {A : Type 0} (deal : DealView) (image : Image) (batches : List BatchOfPages) (answers : List (Worked A)) : Type 0 where
  shares : List Share
  have_shares : AllZip (HasShare (new_seat deal)) (map (λ (worked : Worked A). worked.spent) answers) shares
  are_sent : AllZip (IsSent deal.base image batches) shares answers

-- the packets that a worker returned give the bytes sent of its share
pub is_sent : {A : Type 0} (deal : DealView) (image : Image) (batches : List BatchOfPages) (worked : Worked A) (h : HasWorked
    image batches (new_seat deal) worked)
    → IsSent deal.base image batches h.share worked
is_sent deal image batches worked h = IfOk-weaker worked.packets (λ packets. packets.items ≡ map (claimed_packet deal.base image batches) h.share.numbers)
    (λ packets. answer_text image.table.page_size packets.items worked.last ≡ share_text deal.base image batches h.share)
    (λ packets same.
    ap (λ (l : List PackedBatch). flat_map (λ (packed : PackedBatch). packed.bytes) l ++ sync_packet image.table.page_size worked.last) same
    ∙ ap (λ (l : List ℕ). l ++ sync_packet image.table.page_size worked.last)
    (flat_map-map (λ (packed : PackedBatch). packed.bytes) (claimed_packet deal.base image batches) h.share.numbers)
    ∙ ap (λ (n : ℕ). flat_map (λ number. (claimed_packet deal.base image batches number).bytes) h.share.numbers
    ++ sync_packet image.table.page_size n) h.has_last)
    h.has_packets

told : {A : Type 0} (deal : DealView) (image : Image) (batches : List BatchOfPages) (answers : List (Worked A))
    → All (HasWorked image batches (new_seat deal)) answers → Told deal image batches answers
told deal image batches [] all = record { shares = []; have_shares = tt; are_sent = tt }
told deal image batches (worked ∷ answers) all =
    let h = All-head (HasWorked image batches (new_seat deal)) worked answers all in
    let rest = told deal image batches answers (All-tail (HasWorked image batches (new_seat deal)) worked answers all) in
    record {
      shares = h.share ∷ rest.shares;
      have_shares = (h.has_share, rest.have_shares);
      are_sent = (is_sent deal image batches worked h, rest.are_sent);
    }

-- workers that all returned packets make a dealing, if they drew each number of the deal once
pub workers_make_a_dealing : {A : Type 0} → WorkersMakeADealing A
workers_make_a_dealing {A} deal image batches answers worked good many seats once =
    let t = told deal image batches answers worked in
    let count : length (map (λ (w : Worked A). w.spent) answers) ≡ deal.seats = length-map answers (λ (w : Worked A). w.spent) ∙ seats in
    let dealing = shares_are_dealt deal (map (λ (w : Worked A). w.spent) answers) t.shares t.have_shares count once in
    record {
      shares = t.shares;
      is_dealing = rw many dealing;
      are_sent = t.are_sent;
    }
