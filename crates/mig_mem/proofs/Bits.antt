-- Marks as bits of words.
use Rattle.std.proofs.Common.{ℕ, ◌≡◌, ◌≢◌, ◌<◌, ◌≤◌, ◌+◌, ◌-◌, ◌*◌, ◌/◌, ◌%◌, ◌^◌, ◌==◌, List, length, get_or, set, refl, sym, ap, ◌∙◌, inl, inr, arith, true}
use Rattle.std.proofs.Common.{false, ◌||◌, ◌&&◌, get_or-set_same, get_or-set_other, w64}
use Rattle.std.specs.Prelude.{bit_and, bit_or, not}
use Rattle.std.specs.Int.{bit_at, bit_not, trailing_zeros}
use Rattle.std.proofs.lemmas.Bool.{cases_Bool, cases_eq, cases_lt, eq-eqb, ne_eqb}
use Rattle.std.proofs.lemmas.List.{get_or_past}
use Rattle.std.proofs.lemmas.Nat.Bits.{bit_at_and, bit_at-lt, bit_at_set_same, bit_at_set_other, bit_at_clear_same, bit_at_clear_other, bit_at_mask_inside}
use Rattle.std.proofs.lemmas.Nat.Bits.{bit_at_mask_below, bit_at-zero, bit_at-trailing_zeros, ones_shl}
use Rattle.mig_mem.specs.Marks.{is_set, IsLowestBit, IsFirstSet}

-- the bits of a word from a bit on
pub rest_above : (word from i : ℕ) → from < 64 → from ≤ i → i < 64 → bit_at (bit_and word ((2 ^ 64 - 1) * 2 ^ from % 2 ^ 64)) i ≡ bit_at word i
rest_above word from i h lo hi =
    ap (λ (m : ℕ). bit_at (bit_and word m) i) (ones_shl 64 from (omega arith)) ∙ bit_at_and word (2 ^ 64 - 2 ^ from) i
    ∙ omega (arith, bit_at_mask_inside from 64 i lo hi, bit_at-lt word i)

-- the mask leaves no bit below the place that it begins at
pub rest_below : (word from i : ℕ) → from < 64 → i < from → bit_at (bit_and word ((2 ^ 64 - 1) * 2 ^ from % 2 ^ 64)) i ≡ 0
rest_below word from i h lo =
    ap (λ (m : ℕ). bit_at (bit_and word m) i) (ones_shl 64 from (omega arith)) ∙ bit_at_and word (2 ^ 64 - 2 ^ from) i
    ∙ omega (arith, bit_at_mask_below from 64 i lo)

-- one mark more
pub set_more : (words : List ℕ) (page q : ℕ) → page < 64 * length words
    → is_set (set words (page / 64) (bit_or (get_or words (page / 64) 0) (1 * 2 ^ (page % 64) % 2 ^ 64))) q ≡ (q == page || is_set words q)
unfolding is_set
set_more words page q room =
    let i : ℕ = page / 64 in
    let k : ℕ = page % 64 in
    let word : ℕ = bit_or (get_or words i 0) (1 * 2 ^ k % 2 ^ 64) in
    let within : i < length words = omega arith in
    elim (cases_eq (q / 64) i) [
      | inr away ↦
          let ne : (q == page) ≡ false = ne_eqb q page (λ e. away (ap (λ (n : ℕ). n / 64) e)) in
          let same : get_or (set words i word) (q / 64) 0 ≡ get_or words (q / 64) 0 = get_or-set_other words i (q / 64) word 0 away in
          rw (ne, same) refl
      | inl at ↦
          let here : get_or (set words i word) (q / 64) 0 ≡ word = ap (λ (n : ℕ). get_or (set words i word) n 0) at ∙ get_or-set_same words i word 0 within in
          let was : get_or words (q / 64) 0 ≡ get_or words i 0 = ap (λ (n : ℕ). get_or words n 0) at in
          elim (cases_eq (q % 64) k) [
            | inl low ↦
                let e : q ≡ page = omega arith in
                let t : (q == page) ≡ true = eq-eqb q page e in
                let one : bit_at word (q % 64) ≡ 1 = ap (λ (n : ℕ). bit_at word n) low ∙ bit_at_set_same w64 (get_or words i 0) k (omega arith) in
                rw (here, t) (eq-eqb (bit_at word (q % 64)) 1 one)
            | inr high ↦
                let ne : (q == page) ≡ false = ne_eqb q page (λ e. high (ap (λ (n : ℕ). n % 64) e)) in
                let other : bit_at word (q % 64) ≡ bit_at (get_or words i 0) (q % 64) = bit_at_set_other w64 (get_or words i 0) k (omega arith) (q % 64) high in
                rw (here, was, ne, other) refl
          ]
    ]

-- one mark fewer
pub set_fewer : (words : List ℕ) (page q : ℕ) → page < 64 * length words
    → is_set (set words (page / 64) (bit_and (get_or words (page / 64) 0) (bit_not w64 (1 * 2 ^ (page % 64) % 2 ^ 64)))) q ≡ (is_set words q && not (q == page))
unfolding is_set
set_fewer words page q room =
    let i : ℕ = page / 64 in
    let k : ℕ = page % 64 in
    let word : ℕ = bit_and (get_or words i 0) (bit_not w64 (1 * 2 ^ k % 2 ^ 64)) in
    let within : i < length words = omega arith in
    elim (cases_eq (q / 64) i) [
      | inr away ↦
          let ne : (q == page) ≡ false = ne_eqb q page (λ e. away (ap (λ (n : ℕ). n / 64) e)) in
          let same : get_or (set words i word) (q / 64) 0 ≡ get_or words (q / 64) 0 = get_or-set_other words i (q / 64) word 0 away in
          rw (ne, same) (elim (cases_Bool (bit_at (get_or words (q / 64) 0) (q % 64) == 1)) [ inl t ↦ rw t refl | inr n ↦ rw n refl ])
      | inl at ↦
          let here : get_or (set words i word) (q / 64) 0 ≡ word = ap (λ (n : ℕ). get_or (set words i word) n 0) at ∙ get_or-set_same words i word 0 within in
          let was : get_or words (q / 64) 0 ≡ get_or words i 0 = ap (λ (n : ℕ). get_or words n 0) at in
          elim (cases_eq (q % 64) k) [
            | inl low ↦
                let e : q ≡ page = omega arith in
                let t : (q == page) ≡ true = eq-eqb q page e in
                let none : bit_at word (q % 64) ≡ 0 = ap (λ (n : ℕ). bit_at word n) low ∙ bit_at_clear_same w64 (get_or words i 0) k (omega arith) in
                let no : (bit_at word (q % 64) == 1) ≡ false = ne_eqb (bit_at word (q % 64)) 1 (λ one. absurd (omega arith)) in
                rw (here, no, t) (elim (cases_Bool (bit_at (get_or words (q / 64) 0) (q % 64) == 1)) [ inl u ↦ rw u refl | inr u ↦ rw u refl ])
            | inr high ↦
                let ne : (q == page) ≡ false = ne_eqb q page (λ e. high (ap (λ (n : ℕ). n % 64) e)) in
                let other : bit_at word (q % 64) ≡ bit_at (get_or words i 0) (q % 64) =
                bit_at_clear_other w64 (get_or words i 0) k (omega arith) (q % 64) (omega arith) high in
                rw (here, was, ne, other) (elim (cases_Bool (bit_at (get_or words i 0) (q % 64) == 1)) [ inl u ↦ rw u refl | inr u ↦ rw u refl ])
          ]
    ]

-- no mark past the words
pub unset_past : (words : List ℕ) (q : ℕ) → 64 * length words ≤ q → is_set words q ≡ false
unfolding is_set
unset_past words q past =
    let none : get_or words (q / 64) 0 ≡ 0 = get_or_past words (q / 64) 0 (omega arith) in
    rw none (ne_eqb (bit_at 0 (q % 64)) 1 (λ e. let z : bit_at 0 (q % 64) ≡ 0 = bit_at-zero (q % 64) in absurd (omega arith)))

-- the mark of a page is a bit of its word
pub set_from_bit : (words : List ℕ) (i b : ℕ) → b < 64 → bit_at (get_or words i 0) b ≡ 1 → is_set words (i * 64 + b) ≡ true
unfolding is_set
set_from_bit words i b small h =
    let word : (i * 64 + b) / 64 ≡ i = omega arith in
    let bit : (i * 64 + b) % 64 ≡ b = omega arith in
    rw (word, bit) (eq-eqb (bit_at (get_or words i 0) b) 1 h)

-- a page whose bit is 0 has no mark
pub unset_from_bit : (words : List ℕ) (q : ℕ) → bit_at (get_or words (q / 64) 0) (q % 64) ≡ 0 → is_set words q ≡ false
unfolding is_set
unset_from_bit words q h = ne_eqb (bit_at (get_or words (q / 64) 0) (q % 64)) 1 (λ e. absurd (omega arith))

-- ---- the lowest bit of a word, and the first mark of words

abbrev pub rest_of : ℕ → ℕ → ℕ
rest_of word from = bit_and word ((2 ^ 64 - 1) * 2 ^ from % 2 ^ 64)

-- the trailing zeros of what is left of a word give its lowest bit from a place on
pub lowest : (word from : ℕ) → from < 64 → rest_of word from < 2 ^ 64 → rest_of word from ≢ 0 → IsLowestBit word from (trailing_zeros w64 (rest_of word from))
lowest word from h fits some =
    let rest : ℕ = rest_of word from in
    let b : ℕ = trailing_zeros w64 rest in
    let at = bit_at-trailing_zeros w64 rest (omega arith) fits in
    let low : from ≤ b = elim (cases_lt b from) [
      | inr le ↦ le
      | inl lt ↦ let z : bit_at rest b ≡ 0 = rest_below word from b h lt in let one : bit_at rest b ≡ 1 = at.1 in absurd (omega arith)
    ] in
    record {
      low = low;
      small = at.0;
      set = sym (rest_above word from b h low at.0) ∙ at.1;
      before = λ i lo lt. let small : b < 64 = at.0 in sym (rest_above word from i h lo (omega arith)) ∙ at.2 i lt;
    }

-- if nothing is left of a word from a place on, all its bits from there on are 0
pub no_bit : (word from : ℕ) → from < 64 → rest_of word from ≡ 0 → (i : ℕ) → from ≤ i → i < 64 → bit_at word i ≡ 0
no_bit word from h none i lo hi = sym (rest_above word from i h lo hi) ∙ ap (λ (n : ℕ). bit_at n i) none ∙ bit_at-zero i

-- no mark in a word from a bit on
pub unset_word : (words : List ℕ) (i from q : ℕ) → ((k : ℕ) → from ≤ k → k < 64 → bit_at (get_or words i 0) k ≡ 0)
    → i * 64 + from ≤ q → q < i * 64 + 64 → is_set words q ≡ false
unset_word words i from q none lo hi =
    let word : q / 64 ≡ i = omega arith in
    unset_from_bit words q (ap (λ (n : ℕ). bit_at (get_or words n 0) (q % 64)) word ∙ none (q % 64) (omega arith) (omega arith))

-- the first mark, if none stands before a word
pub first_in_word : (words : List ℕ) (from i low b : ℕ) → i < length words → IsLowestBit (get_or words i 0) low b → from ≤ i * 64 + low
    → ((q : ℕ) → from ≤ q → q < i * 64 + low → is_set words q ≡ false) → IsFirstSet words from (i * 64 + b)
first_in_word words from i low b within is past none =
    let h : low ≤ b = is.low in
    let small : b < 64 = is.small in
    record {
      low = omega arith;
      within = omega arith;
      set = set_from_bit words i b small is.set;
      before = λ q lo lt. elim (cases_lt q (i * 64 + low)) [
        | inl before ↦ none q lo before
        | inr after ↦
            let word : q / 64 ≡ i = omega arith in
            unset_from_bit words q (ap (λ (n : ℕ). bit_at (get_or words n 0) (q % 64)) word ∙ is.before (q % 64) (omega arith) (omega arith))
      ];
    }
