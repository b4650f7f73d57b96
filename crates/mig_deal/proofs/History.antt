-- What the rule says of the history of draws.
use Rattle.std.proofs.Common.{ℕ, suc, ◌+◌, ◌≤◌, List, [], ◌∷◌, leb, eqb, sym, ◌∙◌, arith}
use Rattle.std.proofs.lemmas.Bool.Decides.{nat_tests}
use Rattle.mig_deal.specs.declared.rule.Holding.{Holding}
use Rattle.mig_deal.specs.declared.rule.Terms.{Terms}
use Rattle.mig_deal.specs.Deal.{times}
use Rattle.mig_deal.specs.Rule.{numbers_of, last_count, IsWorkButNewest}
use Rattle.mig_deal.specs.History.{EachNumberOnce, EachNumberHasOneSeat, WordStaysBelow, SeatsStopAtLast}
use Rattle.mig_deal.proofs.Counts.{count_by-flat_map, count_by-cons, each_once, one_alone}
use Rattle.mig_deal.proofs.Steps.{stays_below}

-- all seats together hold each number from the base up to the word once, and no other
pub each_number_once : EachNumberOnce
each_number_once terms word dealt = each_once _ _ _ dealt.begun dealt.whole

-- each number from the base up to the word is held by one seat, and by no other
pub each_number_has_one_seat : EachNumberHasOneSeat
each_number_has_one_seat terms word dealt i below =
    let number : ℕ = terms.base + i in
    let once = (each_number_once terms word dealt).once number (omega arith) below in
    let count = λ (seat : Holding). times number (numbers_of seat) in
    let alone = one_alone count word.views (sym (count_by-flat_map (λ x. eqb x number) numbers_of word.views) ∙ once) in record {
      place = alone.place;
      held = (alone.member, alone.at, alone.has);
      by_no_other = alone.others;
    }

-- the word is at most the base plus the number of batches and of seats
pub word_stays_below : WordStaysBelow
word_stays_below = stays_below

one_last : (terms : Terms) (drawn : List ℕ) → IsWorkButNewest terms drawn → last_count terms drawn ≤ 1
one_last terms [] stops = omega arith
one_last terms (x ∷ []) stops = let s = count_by-cons (λ y. leb (terms.base + terms.batches) y) x [] in grind (arith, nat_tests)
one_last terms (x ∷ y ∷ ys) stops =
    let s = count_by-cons (λ z. leb (terms.base + terms.batches) z) x (y ∷ ys) in
    let is_work = stops 0 (omega arith) in
    let rest = one_last terms (y ∷ ys) (λ place before. stops (suc place) (omega arith)) in
    grind (arith, nat_tests)

-- a seat drew at most one last number, and nothing after it
pub seats_stop_at_last : SeatsStopAtLast
seats_stop_at_last terms word dealt place seat at = let stops = (dealt.lawful place seat at).stops in record {
  one_last = one_last terms seat.drawn stops;
  nothing_after = stops;
}
