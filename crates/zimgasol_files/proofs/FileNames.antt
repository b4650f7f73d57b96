-- The names of files: what they are made of, and that no two are the same.
use Rattle.std.proofs.Common.{◌≡◌, ◌≢◌, ℕ, ◌+◌, ◌/◌, ◌%◌, ◌<◌, ◌^◌, true, false, leb, eqb, ◌⊎◌, List, [], ◌∷◌, ◌++◌, length, get_or, All, codes, sym, refl, ap}
use Rattle.std.proofs.Common.{◌∙◌, subst, inl, inr, ⊎_elim, arith}
use Rattle.std.specs.Fmt.{decimal, digit_glyph}
use Rattle.std.proofs.lemmas.Bool.{cond-true, cond-false, cond_both, cases_Bool, eqb-false, both_ways}
use Rattle.std.proofs.lemmas.List.{append_cancel_left, append_cancel_right}
use Rattle.std.proofs.lemmas.List.Elements.{All-nil, All-cons, All-append}
use Rattle.std.proofs.lemmas.Fmt.{decimal_by_steps, decimal_injective}
use Rattle.percent_encoding.specs.declared.ascii_set.AsciiSet.{AsciiSet}
use Rattle.percent_encoding.specs.AsciiSet.{contains, should_percent_encode}
use Rattle.percent_encoding.specs.Percent.{percent_encode, percent_encode_byte, percent_decode}
use Rattle.percent_encoding.proofs.AsciiSetLemmas.{outside_from_kept}
use Rattle.percent_encoding.proofs.PercentLemmas.{IsEscapeByte, All-percent_encode, All-percent_encode_byte, percent_encode_escaped, percent_encode_kept}
use Rattle.percent_encoding.proofs.PercentLemmas.{round_trip}
use Rattle.zimgasol_files.specs.declared.naming.TheConstants.{ESCAPED, ESCAPED_WITH_DOTS, MOST_LEN}
use Rattle.zimgasol_files.specs.Naming.{escaped_in, stem_of, name_of, IsId, IsPlainName}

-- ---- what is escaped

set_has_percent : (id : List ℕ) → contains (escaped_in id) 37 ≡ true
set_has_percent id = cond_both (eqb (get_or id 0 0) 46) ESCAPED_WITH_DOTS ESCAPED (λ s. contains s 37 ≡ true) (λ e. refl) (λ e. refl)

set_has_slash : (id : List ℕ) → contains (escaped_in id) 47 ≡ true
set_has_slash id = cond_both (eqb (get_or id 0 0) 46) ESCAPED_WITH_DOTS ESCAPED (λ s. contains s 47 ≡ true) (λ e. refl) (λ e. refl)

set_has_dot : (id : List ℕ) → get_or id 0 0 ≡ 46 → contains (escaped_in id) 46 ≡ true
set_has_dot id is = cond_both (eqb (get_or id 0 0) 46) ESCAPED_WITH_DOTS ESCAPED (λ s. contains s 46 ≡ true) (λ e. refl)
    (λ e. absurd (eqb-false (get_or id 0 0) 46 e is))

-- a byte of the set isn't kept
kept_is_other : (set : AsciiSet) (b c : ℕ) → contains set c ≡ true → should_percent_encode set b ≡ false → b ≢ c
kept_is_other set b c has kept is = both_ways (contains set c) (subst (λ x. contains set x ≡ false) is (outside_from_kept set b kept)) has

-- ---- no slash

differs : (a b : ℕ) → eqb a b ≡ false → a ≢ b
differs a b e = eqb-false a b e

escape_has_no_slash : (b : ℕ) → IsEscapeByte b → b ≢ 47
escape_has_no_slash b h is = ⊎_elim
    (λ e. absurd (omega (arith, e, is)))
    (λ digit. ⊎_elim
    (λ e. absurd (omega (arith, e.1, e.0, is)))
    (λ e. absurd (omega (arith, e.1, e.0, is)))
    digit)
    h

escaped_has_no_slash : (id : List ℕ) → All (λ b. b ≢ 47) (percent_encode (escaped_in id) id)
escaped_has_no_slash id = All-percent_encode (λ b. b ≢ 47) (escaped_in id) id
    (λ b kept. kept_is_other (escaped_in id) b 47 (set_has_slash id) kept) escape_has_no_slash

digit_is_no_slash : (n : ℕ) → 48 + n ≢ 47
digit_is_no_slash n is = absurd (omega (arith, is))

decimal_has_no_slash : (n : ℕ) → n < 2 ^ 64 → All (λ b. b ≢ 47) (decimal n)
decimal_has_no_slash = decimal_by_steps (λ n ds. All (λ b. b ≢ 47) ds)
    (λ n small. All-cons (λ b. b ≢ 47) (48 + n) [] (digit_is_no_slash n) (All-nil (λ b. b ≢ 47)))
    (λ n ds large h. All-append (λ b. b ≢ 47) ds ((48 + n % 10) ∷ []) h
    (All-cons (λ b. b ≢ 47) (48 + n % 10) [] (digit_is_no_slash (n % 10)) (All-nil (λ b. b ≢ 47))))

-- a few bytes, none of them a slash
suffix_has_no_slash : All (λ b. b ≢ 47) (codes ".bin")
suffix_has_no_slash =
    let P : ℕ → Type 0 = λ b. b ≢ 47 in
    All-cons P 46 (98 ∷ 105 ∷ 110 ∷ []) (differs 46 47 refl) (All-cons P 98 (105 ∷ 110 ∷ []) (differs 98 47 refl)
    (All-cons P 105 (110 ∷ []) (differs 105 47 refl) (All-cons P 110 [] (differs 110 47 refl) (All-nil P))))

long_has_no_slash : All (λ b. b ≢ 47) (codes "%long-")
long_has_no_slash =
    let P : ℕ → Type 0 = λ b. b ≢ 47 in
    All-cons P 37 (108 ∷ 111 ∷ 110 ∷ 103 ∷ 45 ∷ []) (differs 37 47 refl) (All-cons P 108 (111 ∷ 110 ∷ 103 ∷ 45 ∷ []) (differs 108 47 refl)
    (All-cons P 111 (110 ∷ 103 ∷ 45 ∷ []) (differs 111 47 refl) (All-cons P 110 (103 ∷ 45 ∷ []) (differs 110 47 refl)
    (All-cons P 103 (45 ∷ []) (differs 103 47 refl) (All-cons P 45 [] (differs 45 47 refl) (All-nil P))))))

-- ---- the two kinds of names

stem_cases : (id : List ℕ) (i : ℕ) → (stem_of id i ≡ percent_encode (escaped_in id) id) ⊎ (stem_of id i ≡ codes "%long-" ++ decimal i)
stem_cases id i = ⊎_elim (λ e. inl (cond-true _ _ _ e)) (λ e. inr (cond-false _ _ _ e))
    (cases_Bool (leb (length (percent_encode (escaped_in id) id)) MOST_LEN))

-- the second byte of an escaped id isn't that of a name by number
no_l : (d : ℕ) → IsEscapeByte d → d ≢ 108
no_l d h is = ⊎_elim
    (λ e. absurd (omega (arith, e, is)))
    (λ digit. ⊎_elim
    (λ e. absurd (omega (arith, e.1, e.0, is)))
    (λ e. absurd (omega (arith, e.1, e.0, is)))
    digit)
    h

escaped_second : (set : AsciiSet) (b : ℕ) (bs rest : List ℕ) → contains set 37 ≡ true → percent_encode set (b ∷ bs) ≢ 37 ∷ 108 ∷ rest
unfolding percent_encode_byte
escaped_second set b bs rest has = ⊎_elim
    (λ e. rw (percent_encode_escaped set b bs e)
    (λ same. no_l (digit_glyph true (b / 16 % 16)) (All-percent_encode_byte b 1 0 (omega arith)) (ap (λ xs. get_or xs 1 0) same)))
    (λ e. rw (percent_encode_kept set b bs e) (λ same. kept_is_other set b 37 has e (ap (λ xs. get_or xs 0 0) same)))
    (cases_Bool (should_percent_encode set b))

escaped_is_not_long : (id : List ℕ) (i : ℕ) → 0 < length id → percent_encode (escaped_in id) id ≢ codes "%long-" ++ decimal i
escaped_is_not_long [] i some = absurd (omega (arith, some))
escaped_is_not_long (b ∷ bs) i some = escaped_second (escaped_in (b ∷ bs)) b bs (111 ∷ 110 ∷ 103 ∷ 45 ∷ decimal i) (set_has_percent (b ∷ bs))

-- ---- names are those of files in a folder

stem_has_no_slash : (id : List ℕ) (i : ℕ) → i < 2 ^ 64 → All (λ b. b ≢ 47) (stem_of id i)
stem_has_no_slash id i small = ⊎_elim
    (λ e. subst (λ xs. All (λ b. b ≢ 47) xs) (sym e) (escaped_has_no_slash id))
    (λ e. subst (λ xs. All (λ b. b ≢ 47) xs) (sym e) (All-append (λ b. b ≢ 47) (codes "%long-") (decimal i) long_has_no_slash (decimal_has_no_slash i small)))
    (stem_cases id i)

-- an escaped id doesn't begin with a dot
first_of_escaped : (id : List ℕ) → 0 < length id → get_or (percent_encode (escaped_in id) id ++ codes ".bin") 0 0 ≢ 46
unfolding percent_encode_byte
first_of_escaped [] some = absurd (omega (arith, some))
first_of_escaped (b ∷ bs) some =
    let set = escaped_in (b ∷ bs) in
    ⊎_elim
    (λ e. rw (percent_encode_escaped set b bs e) (differs 37 46 refl))
    (λ e. rw (percent_encode_kept set b bs e) (λ is. kept_is_other set b 46 (set_has_dot (b ∷ bs) is) e is))
    (cases_Bool (should_percent_encode set b))

first_of_name : (id : List ℕ) (i : ℕ) → 0 < length id → get_or (name_of id i) 0 0 ≢ 46
first_of_name id i some = ⊎_elim
    (λ e. subst (λ xs. get_or (xs ++ codes ".bin") 0 0 ≢ 46) (sym e) (first_of_escaped id some))
    (λ e. subst (λ xs. get_or (xs ++ codes ".bin") 0 0 ≢ 46) (sym e) (differs 37 46 refl))
    (stem_cases id i)

some_in_name : (stem : List ℕ) → 0 < length (stem ++ codes ".bin")
some_in_name [] = omega arith
some_in_name (b ∷ bs) = omega arith

-- the name of a block's file isn't empty, has no slash, and doesn't begin with a dot
pub name_is_plain : (id : List ℕ) (i : ℕ) → IsId id → i < 2 ^ 64 → IsPlainName (name_of id i)
name_is_plain id i is small = record {
  has_some = some_in_name (stem_of id i);
  has_no_slash = All-append (λ b. b ≢ 47) (stem_of id i) (codes ".bin") (stem_has_no_slash id i small) suffix_has_no_slash;
  has_no_dot_first = first_of_name id i is.has_some;
}

-- ---- names are distinct

escaped_is_one_to_one : (a b : List ℕ) → IsId a → IsId b → percent_encode (escaped_in a) a ≡ percent_encode (escaped_in b) b → a ≡ b
escaped_is_one_to_one a b is_a is_b same =
    sym (round_trip (escaped_in a) a (set_has_percent a) is_a.are_bytes) ∙ ap percent_decode same
    ∙ round_trip (escaped_in b) b (set_has_percent b) is_b.are_bytes

-- two blocks with different ids and different numbers have different names
pub names_differ : (a b : List ℕ) (i j : ℕ) → IsId a → IsId b → i < 2 ^ 64 → j < 2 ^ 64 → a ≢ b → i ≢ j → name_of a i ≢ name_of b j
names_differ a b i j is_a is_b small_i small_j other_id other_number same =
    let stems : stem_of a i ≡ stem_of b j = append_cancel_right (stem_of a i) (stem_of b j) (codes ".bin") same in
    ⊎_elim
    (λ ea. ⊎_elim
    (λ eb. other_id (escaped_is_one_to_one a b is_a is_b (sym ea ∙ stems ∙ eb)))
    (λ eb. escaped_is_not_long a j is_a.has_some (sym ea ∙ stems ∙ eb))
    (stem_cases b j))
    (λ ea. ⊎_elim
    (λ eb. escaped_is_not_long b i is_b.has_some (sym eb ∙ sym stems ∙ ea))
    (λ eb. other_number (decimal_injective i j small_i small_j (append_cancel_left (codes "%long-") (decimal i) (decimal j) (sym ea ∙ stems ∙ eb))))
    (stem_cases b j))
    (stem_cases a i)
