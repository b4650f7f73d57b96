-- What occurs twice and what is missing, in numbers in ascending order.
use Rattle.std.proofs.Common.{ℕ, ◌≡◌, ◌<◌, ◌≤◌, ◌+◌, suc, List, [], ◌∷◌, length, get_or, drop, refl, sym, ap}
use Rattle.std.proofs.Common.{◌∙◌, inl, inr, arith, Option, Some, None, Bool, true, false, not, cond}
use Rattle.std.specs.Prelude.{◌==◌, ◌||◌, Contains, All, AllPairs, filter, count_by, nat_lt, nat_le, nat_eq, IsPermutation, IsSorted, if◌then◌else◌}
use Rattle.std.specs.List.{range_with_len, list_any}
use Rattle.std.specs.Option.{option_map, option_or}
use Rattle.std.specs.Ordering.{nat_cmp}
use Rattle.std.proofs.lemmas.Bool.{cases_Bool, cases_eq, cond-true, cond-false, le-ltb, lt-ltb, lt-leb, le-leb, ltb-true, ltb-false}
use Rattle.std.proofs.lemmas.Bool.{eq-eqb, eqb-true, eqb-false, ne_eqb, or_from, or_left, not_from_true, not_from_false}
use Rattle.std.proofs.lemmas.List.{drop_more}
use Rattle.std.proofs.lemmas.List.Kept.{AllPairs-cons}
use Rattle.std.proofs.lemmas.List.Elements.{All-cons, All-contains}
use Rattle.std.proofs.lemmas.List.FromFn.{length-range_with_len, get_or-range_with_len}
use Rattle.std.proofs.lemmas.List.Sorted.{IsNonDecreasingBy-from_sort}
use Rattle.mig_mem.specs.First.{first_some}
use Rattle.mig_mem.proofs.Members.{filter_agree_on}
use Rattle.mig_mem.proofs.Lists.{pairs_tail}
use Rattle.mig_assemble.specs.declared.fault.RoundFault.{RoundFault}
use Rattle.mig_assemble.specs.declared.fault.RoundFault.TheVariants.{Foreign, Doubled, Missing}
use Rattle.mig_assemble.specs.Judging.{least, twice, absent}
use Rattle.mig_assemble.specs.Sorted.{first_pair, first_gap, number_refusal, sorted_refusal}
use Rattle.mig_assemble.proofs.Elements.{contains_cases, contains_here, contains_later, contains_filter}
use Rattle.mig_assemble.proofs.Elements.{filter_contains, all_from, filter_none, count-cons, count_zero, count_some}
use Rattle.mig_assemble.proofs.Bags.{bag_permutation}
use Rattle.mig_assemble.proofs.Least.{nat_order, numbers_apart, least_from}
use Rattle.mig_assemble.proofs.OrderFree.{number_refusal_bag}

-- no number is below one before it
abbrev pub Rises : List ℕ → Type 0
Rises ns = AllPairs (λ m n. m ≤ n) ns

-- what holds of each pair of a list holds of its first element and each later one
pub pairs_head : {X : Type 0} (R : X → X → Type 0) (x : X) (xs : List X) → AllPairs R (x ∷ xs) → All (R x) xs
pairs_head R x xs all = λ k d h. all 0 (suc k) d (omega arith) (omega arith)

-- ---- what occurs twice

-- a number below all others comes once, and the others as often as without it
twice_later : (n : ℕ) (ns : List ℕ) → All (λ m. n < m) ns → twice nat_eq (n ∷ ns) ≡ twice nat_eq ns
twice_later n ns below =
    let p : ℕ → Bool = λ z. nat_le 2 (count_by (λ y. nat_eq y z) (n ∷ ns)) in
    let q : ℕ → Bool = λ z. nat_le 2 (count_by (λ y. nat_eq y z) ns) in
    let above : (m : ℕ) → Contains ns m → n < m = λ m h. All-contains (λ m. n < m) ns m below h in
    let once : count_by (λ y. nat_eq y n) (n ∷ ns) ≤ 1 =
    (let parts = count-cons (λ y. nat_eq y n) n ns in
    let here : ◌≡◌ {A = ℕ} (cond (nat_eq n n) 1 0) 1 = cond-true {A = ℕ} (nat_eq n n) 1 0 (eq-eqb n n refl) in
    let none : count_by (λ y. nat_eq y n) ns ≡ 0 =
    count_zero (λ y. nat_eq y n) ns (λ m h. ne_eqb m n (λ e. let l : n < m = above m h in omega arith)) in omega arith) in
    cond-false (p n) (n ∷ filter p ns) (filter p ns) (lt-leb 2 (count_by (λ y. nat_eq y n) (n ∷ ns)) (omega arith))
    ∙ filter_agree_on p q ns (all_from ns (λ z. p z ≡ q z) (λ z h.
    let here : ◌≡◌ {A = ℕ} (cond (nat_eq n z) 1 0) 0 = cond-false {A = ℕ} (nat_eq n z) 1 0 (ne_eqb n z (λ e. let l : n < z = above z h in omega arith)) in
    let parts = count-cons (λ y. nat_eq y z) n ns in
    let e : count_by (λ y. nat_eq y z) (n ∷ ns) ≡ count_by (λ y. nat_eq y z) ns = omega arith in
    ap (nat_le 2) e))

-- the first two neighbours that are equal are the least number that occurs twice
first_pair-is : (ns : List ℕ) → Rises ns → first_pair ns ≡ least nat_lt (twice nat_eq ns)
first_pair-is [] up = refl
first_pair-is (m ∷ []) up = sym (ap (λ (l : List ℕ). least nat_lt l) (twice_later m [] (λ k d h. absurd (omega arith))))
first_pair-is (m ∷ (n ∷ ns)) up =
    let all : List ℕ = m ∷ (n ∷ ns) in
    let low : All (λ z. m ≤ z) (n ∷ ns) = pairs_head (λ x y. x ≤ y) m (n ∷ ns) up in
    let rest : Rises (n ∷ ns) = pairs_tail (λ x y. x ≤ y) m (n ∷ ns) up in
    elim (cases_Bool (m == n)) [
      | inl t ↦
          let same : m ≡ n = eqb-true m n t in
          let two : 2 ≤ count_by (λ w. nat_eq w m) all =
          (let here : ◌≡◌ {A = ℕ} (cond (nat_eq m m) 1 0) 1 = cond-true {A = ℕ} (nat_eq m m) 1 0 (eq-eqb m m refl) in
          let parts = count-cons (λ w. nat_eq w m) m (n ∷ ns) in
          let more : 1 ≤ count_by (λ w. nat_eq w m) (n ∷ ns) = count_some (λ w. nat_eq w m) (n ∷ ns) n (contains_here n ns) (eq-eqb n m (sym same)) in
          omega arith) in
          cond-true (m == n) (Some m) (first_pair (n ∷ ns)) t
          ∙ sym (least_from nat_lt nat_order (twice nat_eq all) m (λ z _ a b. numbers_apart z m a b)
          (contains_filter (λ z. nat_le 2 (count_by (λ w. nat_eq w z) all)) all m (contains_here m (n ∷ ns)) (le-leb 2 (count_by (λ w. nat_eq w m) all) two))
          (all_from (twice nat_eq all) (λ z. nat_lt z m ≡ false) (λ z h.
          let k = filter_contains (λ z. nat_le 2 (count_by (λ w. nat_eq w z) all)) all z h in
          elim (contains_cases m (n ∷ ns) z k.0) [
            | inl e ↦ le-ltb z m (omega arith)
            | inr later ↦ le-ltb z m (All-contains (λ z. m ≤ z) (n ∷ ns) z low later)
          ])))
      | inr f ↦
          let differ : m ≡ n → ⊥ = eqb-false m n f in
          let le : m ≤ n = low 0 n (omega arith) in
          let lt : m < n = (elim (cases_eq m n) [ inl e ↦ absurd (differ e) | inr ne ↦ omega arith ]) in
          let above : All (λ z. m < z) (n ∷ ns) = All-cons (λ z. m < z) n ns lt
          (λ k d h. let l : n ≤ get_or ns k d = pairs_head (λ x y. x ≤ y) n ns rest k d h in omega arith) in
          cond-false (m == n) (Some m) (first_pair (n ∷ ns)) f
          ∙ first_pair-is (n ∷ ns) rest
          ∙ sym (ap (λ (l : List ℕ). least nat_lt l) (twice_later m (n ∷ ns) above))
    ]

-- if no neighbours are equal, the numbers rise strictly
strict : (ns : List ℕ) → Rises ns → first_pair ns ≡ None → AllPairs (λ m n. m < n) ns
strict [] up none = λ i j d lt h. absurd (omega arith)
strict (m ∷ []) up none = λ i j d lt h. absurd (omega arith)
strict (m ∷ (n ∷ ns)) up none = elim (cases_Bool (m == n)) [
  | inl t ↦ let yes : first_pair (m ∷ (n ∷ ns)) ≡ Some m = cond-true (m == n) (Some m) (first_pair (n ∷ ns)) t in absurd cc
  | inr f ↦
      let rest : Rises (n ∷ ns) = pairs_tail (λ x y. x ≤ y) m (n ∷ ns) up in
      let le : m ≤ n = pairs_head (λ x y. x ≤ y) m (n ∷ ns) up 0 n (omega arith) in
      let lt : m < n = (elim (cases_eq m n) [ inl e ↦ absurd (eqb-false m n f e) | inr ne ↦ omega arith ]) in
      AllPairs-cons (λ m n. m < n) m (n ∷ ns)
      (All-cons (λ z. m < z) n ns lt (λ k d h. let l : n ≤ get_or ns k d = pairs_head (λ x y. x ≤ y) n ns rest k d h in omega arith))
      (strict (n ∷ ns) rest (sym (cond-false (m == n) (Some m) (first_pair (n ∷ ns)) f) ∙ none))
]

-- ---- what is below the base, and what is missing

foreign_sorted : (base n : ℕ) (ns : List ℕ) → Rises (n ∷ ns) → n < base → least nat_lt (filter (λ m. nat_lt m base) (n ∷ ns)) ≡ Some n
foreign_sorted base n ns up lt =
    least_from nat_lt nat_order (filter (λ m. nat_lt m base) (n ∷ ns)) n (λ z _ a b. numbers_apart z n a b)
    (contains_filter (λ m. nat_lt m base) (n ∷ ns) n (contains_here n ns) (lt-ltb n base lt))
    (all_from (filter (λ m. nat_lt m base) (n ∷ ns)) (λ z. nat_lt z n ≡ false) (λ z h.
    elim (contains_cases n ns z (filter_contains (λ m. nat_lt m base) (n ∷ ns) z h).0) [
      | inl e ↦ le-ltb z n (omega arith)
      | inr later ↦ le-ltb z n (All-contains (λ z. n ≤ z) ns z (pairs_head (λ x y. x ≤ y) n ns up) later)
    ]))

none_foreign : (base n : ℕ) (ns : List ℕ) → Rises (n ∷ ns) → base ≤ n → filter (λ m. nat_lt m base) (n ∷ ns) ≡ []
none_foreign base n ns up le = filter_none (λ m. nat_lt m base) (n ∷ ns) (λ z h. elim (contains_cases n ns z h) [
  | inl e ↦ le-ltb z base (omega arith)
  | inr later ↦ let l : n ≤ z = All-contains (λ z. n ≤ z) ns z (pairs_head (λ x y. x ≤ y) n ns up) later in le-ltb z base (omega arith)
])

range-contains : (a n x : ℕ) → Contains (range_with_len a n) x → (a ≤ x) × (x < a + n)
range-contains a n x h =
    let len : length (range_with_len a n) ≡ n = length-range_with_len a n in
    let k : ℕ = h.0 in
    let lt : k < length (range_with_len a n) = h.1 in
    let at : get_or (range_with_len a n) k x ≡ a + k = get_or-range_with_len a n k x (omega arith) in
    let e : get_or (range_with_len a n) k x ≡ x = h.2 in
    (omega arith, omega arith)

any_here : {X : Type 0} (p : X → Bool) (x : X) (xs : List X) → p x ≡ true → list_any p (x ∷ xs) ≡ true
any_here p x xs t = or_left (p x) (list_any p xs) t

any_false : {X : Type 0} (p : X → Bool) (xs : List X) → ((x : X) → Contains xs x → p x ≡ false) → list_any p xs ≡ false
any_false p [] none = refl
any_false p (x ∷ xs) none = or_from (p x) (list_any p xs) (none x (contains_here x xs)) (any_false p xs (λ y h. none y (contains_later x xs y h)))

-- if numbers rise strictly from the base on, the first gap is the least number that is missing
first_gap-is : (base : ℕ) (ns : List ℕ) → AllPairs (λ m n. m < n) ns → All (λ n. base ≤ n) ns → first_gap base ns ≡ least nat_lt (absent base ns)
first_gap-is base [] up low = refl
first_gap-is base (n ∷ ns) up low =
    let above : All (λ m. n < m) ns = pairs_head (λ x y. x < y) n ns up in
    let low_n : base ≤ n = low 0 n (omega arith) in
    let p : ℕ → Bool = λ k. not (list_any (λ m. m == k) (n ∷ ns)) in
    let q : ℕ → Bool = λ k. not (list_any (λ m. m == k) ns) in
    let run : List ℕ = range_with_len (base + 1) (length ns) in
    elim (cases_Bool (n == base)) [
      | inl t ↦
          let e : n ≡ base = eqb-true n base t in
          let here : p base ≡ false = not_from_true (list_any (λ m. m == base) (n ∷ ns)) (any_here (λ m. m == base) n ns t) in
          cond-true (n == base) (first_gap (base + 1) ns) (Some base) t
          ∙ first_gap-is (base + 1) ns (pairs_tail (λ x y. x < y) n ns up) (λ k d h. let l : n < get_or ns k d = above k d h in omega arith)
          ∙ sym (ap (λ (l : List ℕ). least nat_lt l) (
          cond-false (p base) (base ∷ filter p run) (filter p run) here
          ∙ filter_agree_on p q run (all_from run (λ k. p k ≡ q k) (λ k h.
          let r : (base + 1 ≤ k) × (k < base + 1 + length ns) = range-contains (base + 1) (length ns) k h in
          let l : base + 1 ≤ k = r.0 in
          ap (λ (b : Bool). not (b || list_any (λ m. m == k) ns)) (ne_eqb n k (λ same. omega arith))))))
      | inr f ↦
          let lt : base < n = (elim (cases_eq n base) [ inl e ↦ absurd (eqb-false n base f e) | inr ne ↦ omega arith ]) in
          let none : list_any (λ m. m == base) (n ∷ ns) ≡ false = or_from (n == base) (list_any (λ m. m == base) ns) f
          (any_false (λ m. m == base) ns (λ z h. ne_eqb z base (λ q. let l : n < z = All-contains (λ m. n < m) ns z above h in omega arith))) in
          cond-false (n == base) (first_gap (base + 1) ns) (Some base) f
          ∙ sym (least_from nat_lt nat_order (absent base (n ∷ ns)) base (λ z _ a b. numbers_apart z base a b)
          (contains_filter p (range_with_len base (length (n ∷ ns))) base (contains_here base run) (not_from_false (list_any (λ m. m == base) (n ∷ ns)) none))
          (all_from (absent base (n ∷ ns)) (λ z. nat_lt z base ≡ false) (λ z h.
          let r : (base ≤ z) × (z < base + length (n ∷ ns)) =
          range-contains base (length (n ∷ ns)) z (filter_contains p (range_with_len base (length (n ∷ ns))) z h).0 in
          le-ltb z base r.0)))
    ]

-- ---- the refusal of numbers

abbrev rest : ℕ → List ℕ → Option RoundFault
rest base ns = first_some (option_map Doubled (least nat_lt (twice nat_eq ns)) ∷ option_map Missing (least nat_lt (absent base ns)) ∷ [])

-- ascending numbers are judged by one walk as by the definition
pub sorted_refusal-is : (base : ℕ) (ns : List ℕ) → Rises ns → number_refusal base ns ≡ sorted_refusal base ns
sorted_refusal-is base [] up = refl
sorted_refusal-is base (n ∷ ns) up = elim (cases_Bool (nat_lt n base)) [
  | inl t ↦ rw (foreign_sorted base n ns up (ltb-true n base t), t) refl
  | inr f ↦
      let le : base ≤ n = ltb-false n base f in
      let low : All (λ m. base ≤ m) (n ∷ ns) = All-cons (λ m. base ≤ m) n ns le
      (λ k d h. let l : n ≤ get_or ns k d = pairs_head (λ x y. x ≤ y) n ns up k d h in omega arith) in
      ap (λ (l : List ℕ). option_or (option_map Foreign (least nat_lt l)) (rest base (n ∷ ns))) (none_foreign base n ns up le)
      ∙ behind low (first_pair (n ∷ ns)) refl
      ∙ sym (cond-false (nat_lt n base) (Some (Foreign n))
      (option_or (option_map Doubled (first_pair (n ∷ ns))) (option_map Missing (first_gap base (n ∷ ns)))) f)
]
  where
    or_nothing : {X : Type 0} (o : Option X) → option_or o None ≡ o
    or_nothing None = refl
    or_nothing (Some y) = refl

    behind : All (λ m. base ≤ m) (n ∷ ns) → (o : Option ℕ) → first_pair (n ∷ ns) ≡ o
        → rest base (n ∷ ns) ≡ option_or (option_map Doubled (first_pair (n ∷ ns))) (option_map Missing (first_gap base (n ∷ ns)))
    behind low (Some d) e =
        let two : least nat_lt (twice nat_eq (n ∷ ns)) ≡ Some d = sym (first_pair-is (n ∷ ns) up) ∙ e in
        ap (λ (o : Option ℕ). option_or (option_map Doubled o) (first_some (option_map Missing (least nat_lt (absent base (n ∷ ns))) ∷ []))) two
        ∙ sym (ap (λ (o : Option ℕ). option_or (option_map Doubled o) (option_map Missing (first_gap base (n ∷ ns)))) e)
    behind low None e =
        let two : least nat_lt (twice nat_eq (n ∷ ns)) ≡ None = sym (first_pair-is (n ∷ ns) up) ∙ e in
        let gap : first_gap base (n ∷ ns) ≡ least nat_lt (absent base (n ∷ ns)) = first_gap-is base (n ∷ ns) (strict (n ∷ ns) up e) low in
        ap (λ (o : Option ℕ). option_or (option_map Doubled o) (first_some (option_map Missing (least nat_lt (absent base (n ∷ ns))) ∷ []))) two
        ∙ or_nothing (option_map Missing (least nat_lt (absent base (n ∷ ns))))
        ∙ ap (λ (o : Option ℕ). option_map Missing o) (sym gap)
        ∙ sym (ap (λ (o : Option ℕ). option_or (option_map Doubled o) (option_map Missing (first_gap base (n ∷ ns)))) e)

-- the refusal of numbers in any order, by sorting them
pub judged_sorted : (base : ℕ) (ns ms : List ℕ) → IsPermutation ns ms → IsSorted nat_cmp ms → number_refusal base ns ≡ sorted_refusal base ms
judged_sorted base ns ms perm sorted =
    number_refusal_bag base ns ms (bag_permutation ns ms perm)
    ∙ sorted_refusal-is base ms (λ i j d lt h. IsNonDecreasingBy-from_sort (λ (n : ℕ). n) ms sorted i j d (omega arith) h)

-- ---- the steps of the loops

-- after a number the next equal pair from `i` on is that number if number `i` equals it,
-- and otherwise the first pair from number `i` on
pub pair_step : (ns : List ℕ) (i last d : ℕ) → i < length ns
    → first_pair (last ∷ drop i ns) ≡ (if last == get_or ns i d then Some last else first_pair (get_or ns i d ∷ drop (i + 1) ns))
pair_step ns i last d h = ap (λ (l : List ℕ). first_pair (last ∷ l)) (drop_more ns i d h)

-- the first gap from `i` on is the expected number unless number `i` is that one,
-- and otherwise the first gap after it, where one more is expected
pub gap_step : (next : ℕ) (ns : List ℕ) (i d : ℕ) → i < length ns
    → first_gap next (drop i ns) ≡ (if get_or ns i d == next then first_gap (next + 1) (drop (i + 1) ns) else Some next)
gap_step next ns i d h = ap (first_gap next) (drop_more ns i d h)
