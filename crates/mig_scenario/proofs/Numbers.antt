-- Words that are numbers.
use Rattle.std.proofs.Common.{ℕ, ◌≡◌, ◌<◌, ◌≤◌, ◌+◌, ◌-◌, ◌*◌, ◌^◌, ◌&&◌, nat_le, Bool, true, List, [], ◌∷◌, length, get_or, take, Some, refl, ap, arith}
use Rattle.std.proofs.Common.{length-take}
use Rattle.std.specs.Bool.{then_some}
use Rattle.std.specs.List.{list_all}
use Rattle.std.specs.Char.{digit_value, is_digit, is_ascii_digit}
use Rattle.std.specs.Str.Parse.{AllDigits, digits_value}
use Rattle.std.proofs.lemmas.Bool.{and_parts, and_from, le-leb, leb-true, lt-ltb}
use Rattle.std.proofs.lemmas.Bool.Decides.{nat_tests}
use Rattle.std.proofs.lemmas.Str.Parse.{digits_value_short, numerals_by_value, tells_digits}
use Rattle.std.proofs.lemmas.Int.Digits.{digits_value_more, digits_more}
use Rattle.mig_scenario.specs.Line.{number, is_number}

-- the value of a digit
digit_of : (c : ℕ) → is_ascii_digit c ≡ true → (digit_value c ≡ c - 48) × (c - 48 < 10) × (48 ≤ c)
digit_of c h =
    let both = and_parts (nat_le 48 c) (nat_le c 57) h in
    let low : 48 ≤ c = leb-true 48 c both.0 in
    let high : c ≤ 57 = leb-true c 57 both.1 in
    (grind (arith, nat_tests), omega arith, low)

-- a digit is below 10 from the byte of 0 on
pub digit_below : (c : ℕ) → is_ascii_digit c ≡ true → c - 48 < 10
digit_below c h = (digit_of c h).1

abbrev are_digits : List ℕ → Bool
are_digits word = list_all (λ byte. is_digit byte 10) word

all_digits : (ds : List ℕ) → AllDigits 10 ds → are_digits ds ≡ true
all_digits [] h = refl
all_digits (d ∷ ds) h = and_from (is_digit d 10) (are_digits ds) (lt-ltb (digit_value d) 10 h.0) (all_digits ds h.1)

-- a digit more fits
pub room : (word : List ℕ) (i : ℕ) → i < length word → length word ≤ 18 → AllDigits 10 (take i word)
    → digits_value 10 (take i word) * 10 + 9 < 2 ^ 64
room word i lt len all =
    let own = numerals_by_value (AllDigits 10) tells_digits in
    let short : length (take i word) ≤ 17 = omega (arith, length-take i word) in
    let below : digits_value 10 (take i word) < 10 ^ 17 = digits_value_short own (take i word) 17 all short in
    omega arith

-- what a digit more makes of the digits so far
pub one_digit_more : (word : List ℕ) (i : ℕ) → i < length word → AllDigits 10 (take i word)
    → is_ascii_digit (get_or word i 0) ≡ true
    → AllDigits 10 (take (i + 1) word)
    × (digits_value 10 (take (i + 1) word) ≡ digits_value 10 (take i word) * 10 + (get_or word i 0 - 48))
one_digit_more word i lt all is =
    let d = digit_of (get_or word i 0) is in
    (digits_more 10 word i lt all (omega (arith, d.0, d.1)), omega (arith, d.0, digits_value_more 10 word i lt))

-- what a word of digits says
pub number_of_digits : (word : List ℕ) → 0 < length word → length word ≤ 18 → AllDigits 10 word
    → number word ≡ Some (digits_value 10 word)
number_of_digits word some short all =
    let low = nat_le 1 (length word) in
    let high = nat_le (length word) 18 in
    let sized : (low && high) ≡ true = and_from low high (le-leb 1 (length word) (omega arith)) (le-leb (length word) 18 short) in
    let is : is_number word ≡ true = and_from (low && high) (are_digits word) sized (all_digits word all) in
    ap (λ (b : Bool). then_some b (digits_value 10 word)) is
