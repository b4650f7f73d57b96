-- Numbers that are refused for nothing are a run, and the other way round.
use Rattle.std.proofs.Common.{ℕ, ◌≡◌, ◌≤◌, ◌<◌, ◌+◌, List, [], ◌∷◌, length, refl, sym, ap, ◌∙◌, inl}
use Rattle.std.proofs.Common.{inr, arith, subst, suc, zero, Option, Some, None}
use Rattle.std.specs.Prelude.{◌==◌, All, nat_lt, nat_le, IsPermutation, if◌then◌else◌}
use Rattle.std.specs.List.{range_with_len}
use Rattle.std.specs.Option.{option_map, option_or}
use Rattle.std.proofs.lemmas.Bool.{cases_Bool, cond_both, cond-true, cond-false, leb-true, leb-false, le-ltb, eqb-true, eq-eqb, ne_eqb}
use Rattle.std.proofs.lemmas.List.Kept.{AllPairs-cons}
use Rattle.std.proofs.lemmas.List.Elements.{All-cons, All-nil, All-weaker}
use Rattle.std.proofs.lemmas.List.Sorted.{IsPermutation-refl, IsPermutation-trans, IsPermutation-sym}
use Rattle.std.proofs.lemmas.List.Sorted.{IsPermutation-cons, IsPermutation-append_left, IsPermutation-append_comm}
use Rattle.mig_mem.proofs.Members.{All-range}
use Rattle.mig_mem.proofs.Lists.{or_none}
use Rattle.mig_assemble.specs.declared.fault.RoundFault.TheVariants.{Foreign, Doubled, Missing}
use Rattle.mig_assemble.specs.Sorted.{first_pair, first_gap, number_refusal, sorted_refusal}
use Rattle.mig_assemble.specs.Lawful.{AreRun}
use Rattle.mig_assemble.proofs.Bags.{bag_permutation, bag_length}
use Rattle.mig_assemble.proofs.OrderFree.{number_refusal_bag}
use Rattle.mig_assemble.proofs.Rising.{Rises, sorted_refusal-is}

-- ---- numbers in ascending order

abbrev insert : ℕ → List ℕ → List ℕ
insert n [] = n ∷ []
insert n (m ∷ ms) = if nat_le n m then n ∷ (m ∷ ms) else m ∷ insert n ms

abbrev ordered : List ℕ → List ℕ
ordered [] = []
ordered (n ∷ ns) = insert n (ordered ns)

-- two numbers in front change places
exchanged : (n m : ℕ) (ms : List ℕ) → IsPermutation (n ∷ (m ∷ ms)) (m ∷ (n ∷ ms))
exchanged n m ms = IsPermutation-append_left ms (n ∷ (m ∷ [])) (m ∷ (n ∷ [])) (IsPermutation-append_comm (n ∷ []) (m ∷ []))

insert_moves : (n : ℕ) (ms : List ℕ) → IsPermutation (n ∷ ms) (insert n ms)
insert_moves n [] = IsPermutation-refl (n ∷ [])
insert_moves n (m ∷ ms) = cond_both (nat_le n m) (n ∷ (m ∷ ms)) (m ∷ insert n ms) (λ (l : List ℕ). IsPermutation (n ∷ (m ∷ ms)) l)
    (λ _. IsPermutation-refl (n ∷ (m ∷ ms)))
    (λ _. IsPermutation-trans (n ∷ (m ∷ ms)) (m ∷ (n ∷ ms)) (m ∷ insert n ms) (exchanged n m ms)
    (IsPermutation-cons m (n ∷ ms) (insert n ms) (insert_moves n ms)))

ordered_moves : (ns : List ℕ) → IsPermutation ns (ordered ns)
ordered_moves [] = IsPermutation-refl []
ordered_moves (n ∷ ns) =
    IsPermutation-trans (n ∷ ns) (n ∷ ordered ns) (insert n (ordered ns)) (IsPermutation-cons n ns (ordered ns) (ordered_moves ns))
    (insert_moves n (ordered ns))

head_below : (n : ℕ) (ns : List ℕ) → Rises (n ∷ ns) → All (λ m. n ≤ m) ns
head_below n ns up k d h = up 0 (suc k) d (omega arith) (omega arith)

tail_rises : (n : ℕ) (ns : List ℕ) → Rises (n ∷ ns) → Rises ns
tail_rises n ns up i j d lt h = up (suc i) (suc j) d (omega arith) (omega arith)

insert_above : (low n : ℕ) (ms : List ℕ) → low ≤ n → All (λ m. low ≤ m) ms → All (λ m. low ≤ m) (insert n ms)
insert_above low n [] le all = All-cons (λ m. low ≤ m) n [] le all
insert_above low n (m ∷ ms) le all = cond_both (nat_le n m) (n ∷ (m ∷ ms)) (m ∷ insert n ms) (λ (l : List ℕ). All (λ m. low ≤ m) l)
    (λ _. All-cons (λ m. low ≤ m) n (m ∷ ms) le all)
    (λ _. All-cons (λ m. low ≤ m) m (insert n ms) (all 0 m (omega arith)) (insert_above low n ms le (λ k d h. all (suc k) d (omega arith))))

insert_rises : (n : ℕ) (ms : List ℕ) → Rises ms → Rises (insert n ms)
insert_rises n [] up = AllPairs-cons (λ a b. a ≤ b) n [] (All-nil (λ m. n ≤ m)) up
insert_rises n (m ∷ ms) up = cond_both (nat_le n m) (n ∷ (m ∷ ms)) (m ∷ insert n ms) (λ (l : List ℕ). Rises l)
    (λ t. let le : n ≤ m = leb-true n m t in
    AllPairs-cons (λ a b. a ≤ b) n (m ∷ ms)
    (All-cons (λ k. n ≤ k) m ms le (All-weaker (λ k. m ≤ k) (λ k. n ≤ k) (λ k h. omega (arith, le, h)) ms (head_below m ms up))) up)
    (λ f. let lt : m < n = leb-false n m f in
    AllPairs-cons (λ a b. a ≤ b) m (insert n ms) (insert_above m n ms (omega (arith, lt)) (head_below m ms up)) (insert_rises n ms (tail_rises m ms up)))

ordered_rises : (ns : List ℕ) → Rises (ordered ns)
ordered_rises [] = λ i j d lt h. absurd (omega arith)
ordered_rises (n ∷ ns) = insert_rises n (ordered ns) (ordered_rises ns)

range_rises : (a n : ℕ) → Rises (range_with_len a n)
range_rises a zero = λ i j d lt h. absurd (omega arith)
range_rises a (suc n) =
    AllPairs-cons (λ x y. x ≤ y) a (range_with_len (a + 1) n) (All-range (λ k. a ≤ k) (a + 1) n (λ k low high. omega (arith, low))) (range_rises (a + 1) n)

-- ---- without a gap

gapless : (next : ℕ) (ns : List ℕ) → first_gap next ns ≡ None → ns ≡ range_with_len next (length ns)
gapless next [] none = refl
gapless next (n ∷ ns) none = elim (cases_Bool (n == next)) [
  | inl t ↦
      let same : n ≡ next = eqb-true n next t in
      let rest : first_gap (next + 1) ns ≡ None = sym (cond-true (n == next) (first_gap (next + 1) ns) (Some next) t) ∙ none in
      rw same (ap (λ (l : List ℕ). next ∷ l) (gapless (next + 1) ns rest))
  | inr f ↦ absurd (let some = sym (cond-false (n == next) (first_gap (next + 1) ns) (Some next) f) ∙ none in cc)
]

range_gapless : (a n : ℕ) → first_gap a (range_with_len a n) ≡ None
range_gapless a zero = refl
range_gapless a (suc n) = cond-true (a == a) (first_gap (a + 1) (range_with_len (a + 1) n)) (Some a) (eq-eqb a a refl) ∙ range_gapless (a + 1) n

range_pairless : (a n : ℕ) → first_pair (range_with_len a n) ≡ None
range_pairless a zero = refl
range_pairless a (suc zero) = refl
range_pairless a (suc (suc n)) =
    cond-false (a == a + 1) (Some a) (first_pair (range_with_len (a + 1) (suc n))) (ne_eqb a (a + 1) (λ e. omega (arith, e))) ∙ range_pairless (a + 1) (suc n)

no_missing : (o : Option ℕ) → option_map Missing o ≡ None → o ≡ None
no_missing None e = refl
no_missing (Some n) e = absurd cc

-- numbers in ascending order that are refused for nothing are the run
sorted_run : (base : ℕ) (ns : List ℕ) → sorted_refusal base ns ≡ None → ns ≡ range_with_len base (length ns)
sorted_run base [] none = refl
sorted_run base (n ∷ ns) none = elim (cases_Bool (nat_lt n base)) [
  | inl t ↦ absurd (let some =
      sym (cond-true (nat_lt n base) (Some (Foreign n)) (option_or (option_map Doubled (first_pair (n ∷ ns))) (option_map Missing (first_gap base (n ∷ ns)))) t)
      ∙ none in cc)
  | inr f ↦
      let rest =
      sym (cond-false (nat_lt n base) (Some (Foreign n))
      (option_or (option_map Doubled (first_pair (n ∷ ns))) (option_map Missing (first_gap base (n ∷ ns)))) f) ∙ none in
      gapless base (n ∷ ns) (no_missing (first_gap base (n ∷ ns))
      (or_none (option_map Doubled (first_pair (n ∷ ns))) (option_map Missing (first_gap base (n ∷ ns))) rest).1)
]

-- and the run is refused for nothing
run_sorted : (base n : ℕ) → sorted_refusal base (range_with_len base n) ≡ None
run_sorted base zero = refl
run_sorted base (suc n) =
    cond-false (nat_lt base base) (Some (Foreign base))
    (option_or (option_map Doubled (first_pair (range_with_len base (suc n)))) (option_map Missing (first_gap base (range_with_len base (suc n)))))
    (le-ltb base base (omega arith))
    ∙ ap (λ (o : Option ℕ). option_or (option_map Doubled o) (option_map Missing (first_gap base (range_with_len base (suc n))))) (range_pairless base (suc n))
    ∙ ap (λ (o : Option ℕ). option_map Missing o) (range_gapless base (suc n))

-- ---- in any order

-- numbers that are refused nothing are a run
pub run_from_none : (base : ℕ) (ns : List ℕ) → number_refusal base ns ≡ None → AreRun base ns
run_from_none base ns none =
    let moves : IsPermutation ns (ordered ns) = ordered_moves ns in
    let sorted : sorted_refusal base (ordered ns) ≡ None =
    sym (sorted_refusal-is base (ordered ns) (ordered_rises ns)) ∙ sym (number_refusal_bag base ns (ordered ns) (bag_permutation ns (ordered ns) moves))
    ∙ none in
    let len : length (ordered ns) ≡ length ns = sym (bag_length ns (ordered ns) (bag_permutation ns (ordered ns) moves)) in
    let is : ordered ns ≡ range_with_len base (length ns) = sorted_run base (ordered ns) sorted ∙ ap (range_with_len base) len in
    subst (λ (l : List ℕ). IsPermutation l ns) is (IsPermutation-sym ns (ordered ns) moves)

-- a run of numbers is refused nothing
pub none_from_run : (base : ℕ) (ns : List ℕ) → AreRun base ns → number_refusal base ns ≡ None
none_from_run base ns run =
    let range : List ℕ = range_with_len base (length ns) in
    sym (number_refusal_bag base range ns (bag_permutation range ns run)) ∙ sorted_refusal-is base range (range_rises base (length ns))
    ∙ run_sorted base (length ns)
