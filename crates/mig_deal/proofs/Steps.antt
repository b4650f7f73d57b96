-- Each step of a deal keeps its rule, and what a seat that represents all seats knows at the end.
use Rattle.std.proofs.Common.{◌≡◌, ℕ, ◌+◌, ◌-◌, ◌%◌, ◌^◌, ◌<◌, ◌≤◌, Bool, true, cond, leb, ⊎_elim, List, [], ◌∷◌, ◌++◌, get_or, set, sym, refl, ap, ◌∙◌, subst}
use Rattle.std.proofs.Common.{arith, append_assoc, append-nil, length, length-append, length-set, get_or-set_same}
use Rattle.std.specs.Prelude.{count_by, sum_by, flat_map}
use Rattle.std.proofs.lemmas.List.Sums.{sum_by_push}
use Rattle.std.proofs.lemmas.List.{set-get_or, get_or_append_left}
use Rattle.std.proofs.lemmas.Bool.Decides.{nat_tests}
use mathlib.Core.Option.{none, some}
use lib.ListN.{get_elem?}
use Rattle.atomic_table.specs.Table.{Me, step, keeps, stepped, Allows, Splits, Joins, Final, Seen}
use Rattle.atomic_table.proofs.Lists.{at_set, at_snoc, set_again}
use Rattle.mig_deal.specs.declared.rule.Holding.{Holding}
use Rattle.mig_deal.specs.declared.rule.Terms.{Terms}
use Rattle.mig_deal.specs.Deal.{DealView, SeatView, all_drawn, HasEachOnce, IsNext, IsWithinLimits}
use Rattle.mig_deal.specs.Rule.{Word, holding, numbers_of, last_count, numbers_between, HasSameNumbers, IsWorkButNewest, IsLawfulSeat, IsDealt, TellsNumber}
use Rattle.mig_deal.specs.Rule.{TellsEnd, HasAllUpTo, without_one_seat, one_new_seat, together, nothing_held, terms_of, IsSeatWithLasts}
use Rattle.mig_deal.proofs.Counts.{sum_by_set, le_sum_by, sum_by_le, sum_by_alone, count_by-flat_map, count_by-append, count_by_push, numbers_push, range_from}
use Rattle.mig_deal.proofs.Counts.{range_length, count_each, none_pass, each_once, found_at}

-- how many of a seat's numbers pass a test
abbrev pub held : (ℕ → Bool) → Holding → ℕ
held test seat = count_by test (numbers_of seat)

-- the rule's `whole`, seat by seat
held_in_all : (terms : Terms) (word : Word) → IsDealt terms word → (test : ℕ → Bool)
    → sum_by (held test) word.views ≡ count_by test (numbers_between terms.base (get_or word.words 0 0))
held_in_all terms word dealt test = sym (count_by-flat_map test numbers_of word.views) ∙ dealt.whole test

same_numbers : (terms : Terms) (seats : List Holding) (next : ℕ)
    → ((test : ℕ → Bool) → sum_by (held test) seats ≡ count_by test (numbers_between terms.base next))
    → HasSameNumbers (flat_map numbers_of seats) (numbers_between terms.base next)
same_numbers terms seats next h test = count_by-flat_map test numbers_of seats ∙ h test

idle_holds_none : (terms : Terms) (word : Word) (dealt : IsDealt terms word) (test : ℕ → Bool) (j : ℕ) (seat : Holding)
    → get_elem? word.views j ≡ some seat → seat.seats ≡ 0 → held test seat ≡ 0
idle_holds_none terms word dealt test j seat at empty = ap (count_by test) ((dealt.lawful j seat at).idle empty)

-- there are no more last numbers than seats, so the word ends in time
pub stays_below : (terms : Terms) (word : Word) → IsDealt terms word → get_or word.words 0 0 ≤ terms.base + terms.batches + terms.seats
stays_below terms word dealt = let n : ℕ = get_or word.words 0 0 in let is_last : ℕ → Bool = λ x. leb (terms.base + terms.batches) x in
    let all = held_in_all terms word dealt is_last in let run = range_from (terms.base + terms.batches) terms.base (n - terms.base) in
    let few : sum_by (held is_last) word.views ≤ sum_by (λ (seat : Holding). seat.seats) word.views =
    sum_by_le (held is_last) (λ (seat : Holding). seat.seats) word.views (λ i seat at. (dealt.lawful i seat at).few_lasts) in
    let b = dealt.begun in let seats = dealt.seats in omega arith

-- a number that is drawn is above those before it
next : (terms : Terms) (word : Word) (dealt : IsDealt terms word) (id : ℕ) (seat : Holding) → get_elem? word.views id ≡ some seat
    → IsNext terms.base seat.drawn (get_or word.words 0 0)
next terms word dealt id seat at = let n : ℕ = get_or word.words 0 0 in let k : ℕ = n - terms.base in let b = dealt.begun in
    let p : ℕ → Bool = λ x. leb n x in let q : ℕ → Bool = λ _. true in record {
      above =
          let e = held_in_all terms word dealt p in let run = range_from n terms.base k in
          let le = le_sum_by (held p) word.views id seat at in let both = count_by-append p seat.drawn seat.joined in
          none_pass n seat.drawn (omega arith);
      far =
          let e = held_in_all terms word dealt q in let run = range_length terms.base k in
          let le = le_sum_by (held q) word.views id seat at in let both = count_by-append q seat.drawn seat.joined in let l = count_each seat.drawn in
          omega arith;
    }

-- lawful seats after one is changed
lawful_after : (terms : Terms) (seats : List Holding) (id : ℕ) (changed : Holding)
    → ((j : ℕ) (seat : Holding) → get_elem? seats j ≡ some seat → IsLawfulSeat terms seat) → IsLawfulSeat terms changed
    → (j : ℕ) (seat : Holding) → get_elem? (set seats id changed) j ≡ some seat → IsLawfulSeat terms seat
lawful_after terms seats id changed all here j seat at =
    ⊎_elim (λ e. subst (IsLawfulSeat terms) e.1 here) (λ e. all j seat e.1) (at_set seats id j changed seat at)

-- and with a new one
lawful_with : (terms : Terms) (seats : List Holding) (added : Holding)
    → ((j : ℕ) (seat : Holding) → get_elem? seats j ≡ some seat → IsLawfulSeat terms seat) → IsLawfulSeat terms added
    → (j : ℕ) (seat : Holding) → get_elem? (seats ++ added ∷ []) j ≡ some seat → IsLawfulSeat terms seat
lawful_with terms seats added all here j seat at = ⊎_elim (λ e. all j seat e) (λ e. subst (IsLawfulSeat terms) e here) (at_snoc seats added seat j at)

-- a number drawn after work alone is the newest
stops_push : (terms : Terms) (drawn : List ℕ) (n : ℕ) → last_count terms drawn ≡ 0 → IsWorkButNewest terms (drawn ++ n ∷ [])
stops_push terms drawn n none_last place before = let len = length-append drawn (n ∷ []) in let at : place < length drawn = omega arith in
    subst (λ k. k < terms.base + terms.batches) (sym (get_or_append_left drawn (n ∷ []) 0 place at))
    (none_pass (terms.base + terms.batches) drawn none_last place 0 at)

-- the word after a draw of the number n
module _ (terms : Terms) (word : Word) (dealt : IsDealt terms word) (id : ℕ) (seat : Holding) (at : get_elem? word.views id ≡ some seat) where
  abbrev n : ℕ
  n = get_or word.words 0 0

  abbrev grown : Holding
  grown = holding seat.terms seat.seats (seat.drawn ++ n ∷ []) seat.joined

  abbrev after : Word
  after = record { words = set word.words 0 (n + 1); homes = word.homes; views = set word.views id grown }

  held_by_grown : (test : ℕ → Bool) → held test grown ≡ held test seat + cond (test n) 1 0
  held_by_grown test = omega (
    arith,
    count_by-append test (seat.drawn ++ n ∷ []) seat.joined,
    count_by_push test seat.drawn n,
    count_by-append test seat.drawn seat.joined,
  )

  drawn : seat.seats ≡ 1 → last_count terms (numbers_of seat) ≡ 0 → IsDealt terms after
  drawn one no_lasts = let wide = dealt.one_word in let is = get_or-set_same word.words 0 (n + 1) 0 (omega arith) in let b = dealt.begun in record {
    one_word = length-set word.words 0 (n + 1) ∙ wide;
    begun = omega arith;
    seats = let e = sum_by_set (λ (u : Holding). u.seats) word.views id seat grown at in let all = dealt.seats in omega arith;
    whole = subst (λ k. HasSameNumbers (flat_map numbers_of (set word.views id grown)) (numbers_between terms.base k)) (sym is)
        (same_numbers terms (set word.views id grown) (n + 1) (λ test.
        let e = sum_by_set (held test) word.views id seat grown at in let g = held_by_grown test in
        let a = held_in_all terms word dealt test in let m = numbers_push test terms.base n b in omega arith));
    lawful = lawful_after terms word.views id grown dealt.lawful record {
      few_lasts = let g = held_by_grown (λ x. leb (terms.base + terms.batches) x) in grind (arith, nat_tests);
      stops = let both = count_by-append (λ x. leb (terms.base + terms.batches) x) seat.drawn seat.joined in stops_push terms seat.drawn n (omega arith);
      idle = λ none_left. absurd (omega arith);
    };
  }

  -- the number found is one that the word may pass
  within : IsDealt terms after → n < terms.base + terms.batches + terms.seats
  within dealt_after = let wide = dealt.one_word in let is = get_or-set_same word.words 0 (n + 1) 0 (omega arith) in
      let le = stays_below terms after dealt_after in omega arith

-- a seat with none joined into it holds as many last numbers as it drew
pub lasts_alone : (terms : Terms) (seat : Holding) → seat.joined ≡ [] → last_count terms (numbers_of seat) ≡ last_count terms seat.drawn
lasts_alone terms seat e = ap (λ xs. last_count terms (seat.drawn ++ xs)) e ∙ ap (last_count terms) (append-nil seat.drawn)

-- what a spent seat holds
abbrev pub held_by : SeatView → Holding
held_by seat = holding (terms_of seat.deal) 1 seat.drawn []

-- it has one last number
pub spent_last : (deal : DealView) (seat : SeatView) → seat.deal ≡ deal → last_count (terms_of seat.deal) seat.drawn ≡ 1
    → last_count (terms_of deal) (numbers_of (held_by seat)) ≡ 1
spent_last deal seat e h = lasts_alone (terms_of deal) (held_by seat) refl ∙ subst (λ (g : DealView). last_count (terms_of g) seat.drawn ≡ 1) e h

-- a draw
pub draws : (slots id : ℕ) (terms : Terms) (stepper : Me (Unit {0}) Holding) → stepper.0.terms ≡ terms
    → IsSeatWithLasts 0 stepper.0 → IsWithinLimits terms.base terms.batches terms.seats
    → Allows (IsDealt terms) slots id stepper 0 (λ n. (n + 1) % 2 ^ 64) (TellsNumber (step slots 0 1 0 none) stepper)
draws slots id terms stepper of held_seat limits word dealt _ at small = let seat : Holding = stepper.0 in
    let le = stays_below terms word dealt in let k : ℕ = get_or word.words 0 0 in let more : Holding = grown terms word dealt id seat at in
    let base_limit = limits.0 in let batches_limit = limits.1 in let seats_limit = limits.3 in let fits : (k + 1) % 2 ^ 64 ≡ k + 1 = omega arith in
    let no_lasts = lasts_alone terms seat held_seat.alone ∙ subst (λ (u : Terms). last_count u seat.drawn ≡ 0) of held_seat.lasts_drawn in
    let then = drawn terms word dealt id seat at held_seat.one no_lasts in (
      more,
      keeps,
      tt,
      subst (λ j. IsDealt terms (stepped word 0 j id stepper.1 more keeps)) (sym fits) then,
      (
        record {
          appended = refl;
          next = subst (λ (u : Terms). IsNext u.base seat.drawn k) (sym of) (next terms word dealt id seat at);
          within = subst (λ (u : Terms). k < u.base + u.batches + u.seats) (sym of) (within terms word dealt id seat at then);
        },
        refl,
      ),
    )

-- a seat split off
pub splits : (terms : Terms) (id : ℕ) (seat : Holding) → 0 < seat.seats → numbers_of seat ≡ []
    → Splits (IsDealt terms) id seat (without_one_seat seat) (one_new_seat seat)
splits terms id seat some_seat empty word dealt at = let left : Holding = without_one_seat seat in
    let right : Holding = one_new_seat seat in let rest : List Holding = set word.views id left in record {
      one_word = dealt.one_word;
      begun = dealt.begun;
      seats = let e = sum_by_set (λ (u : Holding). u.seats) word.views id seat left at in let all = dealt.seats in
          let a = sum_by_push (λ (u : Holding). u.seats) rest right in omega arith;
      whole = same_numbers terms (rest ++ right ∷ []) (get_or word.words 0 0)
          (λ test. let e = sum_by_set (held test) word.views id seat left at in let a = sum_by_push (held test) rest right in
          let all = held_in_all terms word dealt test in let z : held test right ≡ 0 = refl in
          let same : held test left ≡ held test seat = refl in omega arith);
      lawful = lawful_with terms rest right
          (lawful_after terms word.views id left dealt.lawful record {
            few_lasts = let z : last_count terms (numbers_of left) ≡ 0 = ap (last_count terms) empty in omega arith;
            stops = (dealt.lawful id seat at).stops;
            idle = λ _. empty;
          })
          record { few_lasts = omega arith; stops = λ place before. absurd (omega arith); idle = λ none_left. absurd (omega arith) };
    }

-- of two seats joined, as many numbers pass a test as of both apart
pub held_together : (seat other : Holding) (test : ℕ → Bool) → held test (together seat other) ≡ held test seat + held test other
held_together seat other test = omega (
  arith,
  count_by-append test seat.drawn (seat.joined ++ numbers_of other),
  count_by-append test seat.joined (numbers_of other),
  count_by-append test seat.drawn seat.joined,
)

-- of a seat with none joined into it, as many numbers pass a test as of those it drew
pub held_alone : (seat : Holding) → seat.joined ≡ [] → (test : ℕ → Bool) → held test seat ≡ count_by test seat.drawn
held_alone seat e test = ap (λ xs. count_by test (seat.drawn ++ xs)) e ∙ ap (count_by test) (append-nil seat.drawn)

-- with a seat more, those of its numbers that pass a test are added to the count
pub count_all_drawn : (test : ℕ → Bool) (seats : List SeatView) (seat : SeatView)
    → count_by test (all_drawn (seats ++ seat ∷ [])) ≡ count_by test (all_drawn seats) + count_by test seat.drawn
count_all_drawn test seats seat = let f : SeatView → List ℕ = λ e. e.drawn in
    count_by-flat_map test f (seats ++ seat ∷ [])
    ∙ (sum_by_push (λ (e : SeatView). count_by test (f e)) seats seat ∙ ap (λ n. n + count_by test seat.drawn) (sym (count_by-flat_map test f seats)))

-- a seat joined into another
pub joins : (terms : Terms) (id : ℕ) (seat : Holding) (given : ℕ) (other : Holding)
    → Joins (IsDealt terms) id seat given other (together seat other) nothing_held
joins terms id seat given other word dealt at two at' = let all : Holding = together seat other in let rest : List Holding = set word.views id all in
    let sum = held_together seat other in
    let there = at_set word.views id given all other at' in record {
      one_word = dealt.one_word;
      begun = dealt.begun;
      seats = let e = sum_by_set (λ (u : Holding). u.seats) word.views id seat all at in let q = dealt.seats in
          let a = sum_by_set (λ (u : Holding). u.seats) rest given other nothing_held at' in omega arith;
      whole = same_numbers terms (set rest given nothing_held) (get_or word.words 0 0) (λ test. let e = sum_by_set (held test) word.views id seat all at in
          let a = sum_by_set (held test) rest given other nothing_held at' in let q = held_in_all terms word dealt test in
          let z : held test nothing_held ≡ 0 = refl in let j = sum test in omega arith);
      lawful =
          let mine = dealt.lawful id seat at in let theirs : IsLawfulSeat terms other =
          ⊎_elim (λ e. absurd (two e.0)) (λ e. dealt.lawful given other e.1) there in
          lawful_after terms rest given nothing_held
          (lawful_after terms word.views id all dealt.lawful record {
            few_lasts = let a = mine.few_lasts in let b = theirs.few_lasts in let j = sum (λ x. leb (terms.base + terms.batches) x) in omega arith;
            stops = mine.stops;
            idle = λ none_left. let a : numbers_of seat ≡ [] = mine.idle (omega arith) in let b : numbers_of other ≡ [] = theirs.idle (omega arith) in
                sym (append_assoc seat.drawn seat.joined (numbers_of other)) ∙ (ap (λ xs. xs ++ numbers_of other) a ∙ b);
          })
          record { few_lasts = omega arith; stops = λ place before. absurd (omega arith); idle = λ _. refl };
    }

-- a seat that represents all seats holds all numbers
pub ends : (terms : Terms) (id : ℕ) (seat : Holding) (word : Word) (numbers : List ℕ) (next : ℕ)
    → Seen (IsDealt terms) id seat word → seat.seats ≡ terms.seats → get_or word.words 0 0 ≡ next → HasSameNumbers (numbers_of seat) numbers
    → HasEachOnce terms.base next numbers × (last_count terms (numbers_of seat) ≡ terms.seats → 0 < terms.seats
    → next ≡ terms.base + terms.batches + terms.seats)
ends terms id seat word numbers next (dealt, at) whole_deal is same =
    let seats_of = λ (u : Holding). u.seats in let mine : (test : ℕ → Bool) → sum_by (held test) word.views ≡ held test seat = λ test.
    sum_by_alone (held test) seats_of word.views id seat (idle_holds_none terms word dealt test) at (dealt.seats ∙ sym whole_deal) in
    let run : HasSameNumbers (numbers_of seat) (numbers_between terms.base next) = λ test. sym (mine test)
    ∙ (held_in_all terms word dealt test ∙ ap (λ k. count_by test (numbers_between terms.base k)) is) in let b = dealt.begun in (
      each_once terms.base next numbers (omega arith) (λ test. sym (same test) ∙ run test),
      λ all_last some_seat. let e = run (λ x. leb (terms.base + terms.batches) x) in
          let in_run = range_from (terms.base + terms.batches) terms.base (next - terms.base) in omega arith,
    )

-- the end: the word, and the numbers of the seat that closes
pub finishes : (terms : Terms) (id : ℕ) (seat : Holding) (words : List ℕ) (homes : List (Unit {0})) (next : ℕ) (numbers : List ℕ)
    → Final (Seen (IsDealt terms) id seat) words homes → get_elem? words 0 ≡ some next
    → seat.seats ≡ terms.seats → last_count terms (numbers_of seat) ≡ terms.seats → 0 < terms.seats → HasSameNumbers (numbers_of seat) numbers
    → HasEachOnce terms.base next numbers × (next ≡ terms.base + terms.batches + terms.seats)
finishes terms id seat words homes next numbers (word, seen, is_words, _, _) at whole_deal all_last some_seat same =
    let is_next : get_or word.words 0 0 ≡ next = ap (λ (l : List ℕ). get_or l 0 0) is_words ∙ found_at words 0 next 0 at in
    let e = ends terms id seat word numbers next seen whole_deal is_next same in (e.0, e.1 all_last some_seat)

-- a seat that represents all reads the word
pub finds_end : (slots id : ℕ) (terms : Terms) (stepper : Me (Unit {0}) Holding) → stepper.0.terms ≡ terms
    → Allows (IsDealt terms) slots id stepper 0 (λ n. n) (TellsEnd (step slots 0 0 0 none) stepper)
finds_end slots id terms stepper of word dealt _ at small = let seat : Holding = stepper.0 in let k : ℕ = get_or word.words 0 0 in (
  seat,
  keeps,
  tt,
  subst (λ (ws : List ℕ). IsDealt terms (record { words = ws; homes = word.homes; views = set word.views id seat })) (sym (set-get_or word.words 0 0))
      (subst (λ (vs : List Holding). IsDealt terms (record { words = word.words; homes = word.homes; views = vs }))
      (sym (set_again word.views id seat at)) dealt),
  subst (λ (u : Terms). HasAllUpTo u seat k) (sym of)
      (λ whole all_last some_seat numbers same. let e = ends terms id seat word numbers k (dealt, at) whole refl same in (e.0, e.1 all_last some_seat)),
)
