-- The page after some runs, and after one more.
use Rattle.std.proofs.Common.{◌≡◌, ℕ, ◌+◌, ◌-◌, ◌<◌, ◌≤◌, ltb, List, [], ◌∷◌, ◌++◌, length, take, drop, get_or, Option}
use Rattle.std.proofs.Common.{Some, None, refl, sym, ap, ◌∙◌, append-nil, length-append, arith, inl, inr}
use Rattle.std.specs.Option.{unwrap_or}
use Rattle.std.proofs.lemmas.Bool.{lt-ltb, le-ltb, cond-true, cond-false, cases_lt}
use Rattle.std.proofs.lemmas.List.{same_lists, get_or_default, get_or_append_left, get_or-append_right}
use Rattle.std.proofs.lemmas.List.{get_or-take, get_or-drop, length-take-le, length-drop}
use Rattle.mig_xbzrle.specs.Delta.{Run, span, byte_at, IsPageAfter}

-- A page has one page after some runs.
pub one_page : (old : List ℕ) (rs : List Run) (new other : List ℕ) → IsPageAfter old rs new → IsPageAfter old rs other → new ≡ other
one_page old rs new other a b =
    let n = a.has_length in let m = b.has_length in
    same_lists new other (n ∙ sym m) (λ k d l.
    get_or_default new k d 0 l ∙ a.has_bytes k (omega (arith, n, l))
    ∙ sym (b.has_bytes k (omega (arith, n, l))) ∙ get_or_default other k 0 d (omega (arith, n, m, l)))

at_skipped : (r : Run) (rs : List Run) (i : ℕ) → i < r.skip → byte_at (r ∷ rs) i ≡ None
at_skipped r rs i l = cond-true (ltb i r.skip) _ _ (lt-ltb i r.skip l)

at_replaced : (r : Run) (rs : List Run) (i : ℕ) → r.skip ≤ i → i < r.skip + length r.bytes → byte_at (r ∷ rs) i ≡ Some (get_or r.bytes (i - r.skip) 0)
at_replaced r rs i l m = cond-false (ltb i r.skip) _ _ (le-ltb i r.skip l) ∙ cond-true (ltb i (r.skip + length r.bytes)) _ _ (lt-ltb i _ m)

at_later : (r : Run) (rs : List Run) (i : ℕ) → r.skip + length r.bytes ≤ i → byte_at (r ∷ rs) i ≡ byte_at rs (i - (r.skip + length r.bytes))
at_later r rs i l =
    cond-false (ltb i r.skip) _ _ (le-ltb i r.skip (omega (arith, l))) ∙ cond-false (ltb i (r.skip + length r.bytes)) _ _ (le-ltb i _ l)

-- runs after others change no position of those
byte_before : (rs qs : List Run) (i : ℕ) → i < span rs → byte_at (rs ++ qs) i ≡ byte_at rs i
byte_before [] qs i l = absurd (omega arith)
byte_before (r ∷ rs) qs i l =
    elim (cases_lt i r.skip) [
      | inl a ↦ at_skipped r (rs ++ qs) i a ∙ sym (at_skipped r rs i a)
      | inr a ↦ elim (cases_lt i (r.skip + length r.bytes)) [
        | inl b ↦ at_replaced r (rs ++ qs) i a b ∙ sym (at_replaced r rs i a b)
        | inr b ↦ at_later r (rs ++ qs) i b ∙ byte_before rs qs (i - (r.skip + length r.bytes)) (omega (arith, b, l)) ∙ sym (at_later r rs i b)
      ]
    ]

byte_after : (rs qs : List Run) (i : ℕ) → span rs ≤ i → byte_at (rs ++ qs) i ≡ byte_at qs (i - span rs)
byte_after [] qs i l = ap (byte_at qs) (omega arith)
byte_after (r ∷ rs) qs i l =
    let k : ℕ = r.skip + length r.bytes in
    at_later r (rs ++ qs) i (omega (arith, l)) ∙ byte_after rs qs (i - k) (omega (arith, l)) ∙ ap (byte_at qs) (omega (arith, l))

none_after : (rs : List Run) (i : ℕ) → span rs ≤ i → byte_at rs i ≡ None
none_after rs i l = ap (λ (z : List Run). byte_at z i) (sym (append-nil rs)) ∙ byte_after rs [] i l

-- nothing is written by no runs
pub page_itself : (old : List ℕ) → IsPageAfter old [] old
page_itself old = record { has_length = refl; has_bytes = λ i l. refl }

-- the bytes written from a position on
abbrev pub written : List ℕ → ℕ → List ℕ → List ℕ
written page from bytes = take from page ++ (bytes ++ drop (from + length bytes) page)

pub length-written : (page : List ℕ) (from : ℕ) (bytes : List ℕ) → from + length bytes ≤ length page → length (written page from bytes) ≡ length page
length-written page from bytes l =
    let a = length-append (take from page) (bytes ++ drop (from + length bytes) page) in let b = length-append bytes (drop (from + length bytes) page) in
    let c = length-take-le from page (omega (arith, l)) in let d = length-drop (from + length bytes) page in
    omega (arith, a, b, c, d, l)

written_below : (page : List ℕ) (from : ℕ) (bytes : List ℕ) (i : ℕ) → from + length bytes ≤ length page → i < from
    → get_or (written page from bytes) i 0 ≡ get_or page i 0
written_below page from bytes i l m =
    let c = length-take-le from page (omega (arith, l)) in
    get_or_append_left (take from page) _ 0 i (omega (arith, c, m)) ∙ get_or-take from page i 0 m

written_within : (page : List ℕ) (from : ℕ) (bytes : List ℕ) (i : ℕ) → from + length bytes ≤ length page → from ≤ i → i < from + length bytes
    → get_or (written page from bytes) i 0 ≡ get_or bytes (i - from) 0
written_within page from bytes i l m k =
    let c = length-take-le from page (omega (arith, l)) in
    get_or-append_right (take from page) _ from i 0 c m ∙ get_or_append_left bytes _ 0 (i - from) (omega (arith, m, k))

written_above : (page : List ℕ) (from : ℕ) (bytes : List ℕ) (i : ℕ) → from + length bytes ≤ length page → from + length bytes ≤ i
    → get_or (written page from bytes) i 0 ≡ get_or page i 0
written_above page from bytes i l m =
    let c = length-take-le from page (omega (arith, l)) in
    get_or-append_right (take from page) _ from i 0 c (omega (arith, m)) ∙ get_or-append_right bytes _ (length bytes) (i - from) 0 refl (omega (arith, m))
    ∙ get_or-drop (from + length bytes) page (i - from - length bytes) 0 ∙ ap (λ (k : ℕ). get_or page k 0) (omega (arith, m))

-- one run more
pub page_more : (old : List ℕ) (rs : List Run) (page : List ℕ) (r : Run) → IsPageAfter old rs page → span rs + (r.skip + length r.bytes) ≤ length page
    → IsPageAfter old (rs ++ r ∷ []) (written page (span rs + r.skip) r.bytes)
page_more old rs page r h l =
    let n = h.has_length in
    let from : ℕ = span rs + r.skip in
    let room : from + length r.bytes ≤ length page = omega (arith, l) in
    let U : ℕ → Option ℕ → ℕ = λ i o. unwrap_or o (get_or old i 0) in
    record {
      has_length = length-written page from r.bytes room ∙ n;
      has_bytes = λ i m. elim (cases_lt i (span rs)) [
        | inl a ↦ written_below page from r.bytes i room (omega (arith, a)) ∙ h.has_bytes i m ∙ ap (U i) (sym (byte_before rs (r ∷ []) i a))
        | inr a ↦ elim (cases_lt i from) [
          | inl b ↦ written_below page from r.bytes i room b ∙ h.has_bytes i m ∙ ap (U i) (none_after rs i a
              ∙ sym (byte_after rs (r ∷ []) i a ∙ at_skipped r [] (i - span rs) (omega (arith, a, b))))
          | inr b ↦ elim (cases_lt i (from + length r.bytes)) [
            | inl c ↦ written_within page from r.bytes i room b c ∙ ap (λ (k : ℕ). get_or r.bytes k 0) (omega (arith, a, b))
                ∙ ap (U i) (sym (byte_after rs (r ∷ []) i a ∙ at_replaced r [] (i - span rs) (omega (arith, a, b)) (omega (arith, a, c))))
            | inr c ↦ written_above page from r.bytes i room c ∙ h.has_bytes i m ∙ ap (U i) (none_after rs i a
                ∙ sym (byte_after rs (r ∷ []) i a ∙ at_later r [] (i - span rs) (omega (arith, a, c))))
          ]
        ]
      ];
    }
