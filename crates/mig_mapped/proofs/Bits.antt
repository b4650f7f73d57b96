-- One bit of a bitmap is set or cleared.
use Rattle.std.proofs.Common.{ℕ, ◌≡◌, ◌≢◌, ◌+◌, ◌*◌, ◌/◌, ◌%◌, ◌^◌, ◌<◌, ◌==◌, Bool, true, false, cond, List, length, get_or, set, replicate, sym, ap, ◌∙◌}
use Rattle.std.proofs.Common.{inl, inr, arith, get_or-set_same, get_or-set_other}
use Rattle.std.specs.Prelude.{bit_and, bit_or}
use Rattle.std.specs.Int.{w8, bit_at, bit_not}
use Rattle.std.proofs.lemmas.Bool.{cases_eq, cases_lt, eq-eqb, ne_eqb}
use Rattle.std.proofs.lemmas.List.{get_or-replicate, get_or_past, length-replicate}
use Rattle.std.proofs.lemmas.Nat.Bits.{bit_at_set_same, bit_at_set_other, bit_at_clear_same, bit_at_clear_other, bit_at-zero}
use Rattle.mig_mapped.specs.declared.settings.WordOrder.{WordOrder}
use Rattle.mig_mapped.specs.declared.settings.WordOrder.TheVariants.{Little, Big}
use Rattle.mig_mapped.specs.Bitmap.{byte_of, is_set}

-- two pages whose bits are in one byte and at one place of it are one
same_page : (order : WordOrder) (p q : ℕ) → byte_of order q ≡ byte_of order p → q % 8 ≡ p % 8 → q ≡ p
same_page Little p q byte bit = omega arith
same_page Big p q byte bit =
    let high : q / 64 ≡ p / 64 = omega arith in
    let low : q / 8 % 8 ≡ p / 8 % 8 = omega arith in
    omega arith

-- a byte is written in which one bit is `bit`, and the others are as before
one_byte : (order : WordOrder) (bitmap : List ℕ) (page q byte : ℕ) (bit : Bool) → byte_of order page < length bitmap
    → (bit_at byte (page % 8) == 1) ≡ bit
    → ((k : ℕ) → k < 8 → k ≢ page % 8 → bit_at byte k ≡ bit_at (get_or bitmap (byte_of order page) 0) k)
    → is_set order (set bitmap (byte_of order page) byte) q ≡ cond (q == page) bit (is_set order bitmap q)
unfolding is_set
one_byte order bitmap page q byte bit room here others =
    let i : ℕ = byte_of order page in
    let after : ℕ → Bool = λ n. bit_at n (q % 8) == 1 in
    elim (cases_eq (byte_of order q) i) [
      | inr away ↦
          let ne : (q == page) ≡ false = ne_eqb q page (λ e. away (ap (byte_of order) e)) in
          ap after (get_or-set_other bitmap i (byte_of order q) byte 0 away)
          ∙ sym (ap (λ (t : Bool). cond t bit (after (get_or bitmap (byte_of order q) 0))) ne)
      | inl at ↦
          let now : get_or (set bitmap i byte) (byte_of order q) 0 ≡ byte =
          ap (λ (n : ℕ). get_or (set bitmap i byte) n 0) at ∙ get_or-set_same bitmap i byte 0 room in
          let was : get_or bitmap (byte_of order q) 0 ≡ get_or bitmap i 0 = ap (λ (n : ℕ). get_or bitmap n 0) at in
          let old : Bool = after (get_or bitmap (byte_of order q) 0) in
          elim (cases_eq (q % 8) (page % 8)) [
            | inl low ↦
                let t : (q == page) ≡ true = eq-eqb q page (same_page order page q at low) in
                ap after now ∙ ap (λ (n : ℕ). bit_at byte n == 1) low ∙ here ∙ sym (ap (λ (t : Bool). cond t bit old) t)
            | inr high ↦
                let ne : (q == page) ≡ false = ne_eqb q page (λ e. high (ap (λ (n : ℕ). n % 8) e)) in
                ap after now ∙ ap (λ (n : ℕ). n == 1) (others (q % 8) (omega arith) high) ∙ sym (ap after was)
                ∙ sym (ap (λ (t : Bool). cond t bit old) ne)
          ]
    ]

-- the bit is set
bit_put : (order : WordOrder) (bitmap : List ℕ) (page q : ℕ) → byte_of order page < length bitmap
    → is_set order (set bitmap (byte_of order page) (bit_or (get_or bitmap (byte_of order page) 0) (1 * 2 ^ (page % 8) % 2 ^ 8))) q
    ≡ cond (q == page) true (is_set order bitmap q)
bit_put order bitmap page q room =
    let old : ℕ = get_or bitmap (byte_of order page) 0 in
    one_byte order bitmap page q (bit_or old (1 * 2 ^ (page % 8) % 2 ^ 8)) true room
    (eq-eqb _ 1 (bit_at_set_same w8 old (page % 8) (omega arith)))
    (λ k small ne. bit_at_set_other w8 old (page % 8) (omega arith) k ne)

-- the bit is cleared
bit_cleared : (order : WordOrder) (bitmap : List ℕ) (page q : ℕ) → byte_of order page < length bitmap
    → is_set order (set bitmap (byte_of order page) (bit_and (get_or bitmap (byte_of order page) 0) (bit_not w8 (1 * 2 ^ (page % 8) % 2 ^ 8)))) q
    ≡ cond (q == page) false (is_set order bitmap q)
bit_cleared order bitmap page q room =
    let old : ℕ = get_or bitmap (byte_of order page) 0 in
    let byte : ℕ = bit_and old (bit_not w8 (1 * 2 ^ (page % 8) % 2 ^ 8)) in
    let none : bit_at byte (page % 8) ≡ 0 = bit_at_clear_same w8 old (page % 8) (omega arith) in
    one_byte order bitmap page q byte false room
    (ne_eqb (bit_at byte (page % 8)) 1 (λ e. absurd (omega arith)))
    (λ k small ne. bit_at_clear_other w8 old (page % 8) (omega arith) k small ne)

-- the same of the byte's place as the code has it
pub put_at : (order : WordOrder) (bitmap : List ℕ) (page q at : ℕ) (bit : Bool) → at ≡ byte_of order page → bit ≡ true → byte_of order page < length bitmap
    → is_set order (set bitmap at (bit_or (get_or bitmap at 0) (1 * 2 ^ (page % 8) % 2 ^ 8))) q ≡ cond (q == page) bit (is_set order bitmap q)
put_at order bitmap page q at bit here is room =
    ap (λ (n : ℕ). is_set order (set bitmap n (bit_or (get_or bitmap n 0) (1 * 2 ^ (page % 8) % 2 ^ 8))) q) here
    ∙ bit_put order bitmap page q room ∙ ap (λ (t : Bool). cond (q == page) t (is_set order bitmap q)) (sym is)

pub cleared_at : (order : WordOrder) (bitmap : List ℕ) (page q at : ℕ) (bit : Bool) → at ≡ byte_of order page → bit ≡ false → byte_of order page < length bitmap
    → is_set order (set bitmap at (bit_and (get_or bitmap at 0) (bit_not w8 (1 * 2 ^ (page % 8) % 2 ^ 8)))) q ≡ cond (q == page) bit (is_set order bitmap q)
cleared_at order bitmap page q at bit here is room =
    ap (λ (n : ℕ). is_set order (set bitmap n (bit_and (get_or bitmap n 0) (bit_not w8 (1 * 2 ^ (page % 8) % 2 ^ 8)))) q) here
    ∙ bit_cleared order bitmap page q room ∙ ap (λ (t : Bool). cond (q == page) t (is_set order bitmap q)) (sym is)

-- a bitmap of zeros has no bit
pub none_put : (order : WordOrder) (n q : ℕ) → is_set order (replicate n 0) q ≡ false
unfolding is_set
none_put order n q =
    let byte : ℕ = get_or (replicate n 0) (byte_of order q) 0 in
    let zero_byte : byte ≡ 0 = elim (cases_lt (byte_of order q) n) [
      | inl lt ↦ get_or-replicate n (byte_of order q) 0 0 lt
      | inr past ↦ get_or_past (replicate n 0) (byte_of order q) 0 (omega (arith, length-replicate {A = ℕ} n 0))
    ] in
    let none : bit_at byte (q % 8) ≡ 0 = ap (λ (n : ℕ). bit_at n (q % 8)) zero_byte ∙ bit_at-zero (q % 8) in
    ne_eqb (bit_at byte (q % 8)) 1 (λ e. absurd (omega arith))

-- the byte of a page's bit is in a bitmap with a bit for each page
pub byte_within : (order : WordOrder) (pages page : ℕ) → page < pages → byte_of order page < (pages + 63) / 64 * 8
byte_within Little pages page lt = omega arith
byte_within Big pages page lt = omega arith
