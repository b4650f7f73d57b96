-- What is shown of bytes.
use Rattle.std.proofs.Common.{◌≡◌, ℕ, ◌<◌, ◌≤◌, false, ltb, eqb, Bool, ◌||◌, List, All, sym, refl, ap, subst, ◌∙◌, ⊎_elim, arith}
use Rattle.std.proofs.lemmas.Bool.{agree_below_at, both_ways, cases_Bool, ltb-true, ltb-false}
use Rattle.percent_encoding.specs.AsciiSet.{contains, should_percent_encode}
use Rattle.percent_encoding.specs.Percent.{percent_encode}
use Rattle.percent_encoding.proofs.AsciiSetLemmas.{ascii_from_kept, outside_from_kept}
use Rattle.percent_encoding.proofs.PercentLemmas.{All-percent_encode, IsEscapeByte}
use Rattle.zimgasol_files.specs.declared.showing.TheConstants.{HIDDEN}
use Rattle.zimgasol_files.specs.Shown.{IsPrintable}

-- what is hidden of ASCII
abbrev is_hidden : ℕ → Bool
is_hidden b = ltb b 32 || (eqb b 34 || eqb b 127)

-- the last character is hidden
last_is_hidden : (b : ℕ) → b < 128 → 127 ≤ b → is_hidden b ≡ false → b ≤ 126
last_is_hidden b small large plain =
    let last : b ≡ 127 = omega (arith, small, large) in
    absurd (both_ways (is_hidden 127) (subst (λ x. is_hidden x ≡ false) last plain) refl)

kept_is_printable : (b : ℕ) → should_percent_encode HIDDEN b ≡ false → IsPrintable b
kept_is_printable b kept =
    let small : b < 128 = ascii_from_kept HIDDEN b kept in
    let same : contains HIDDEN b ≡ is_hidden b = agree_below_at (contains HIDDEN) is_hidden 128 b refl small in
    let plain : is_hidden b ≡ false = sym same ∙ outside_from_kept HIDDEN b kept in
    let low : 32 ≤ b = ⊎_elim
    (λ t. absurd (both_ways (is_hidden b) plain (ap (λ x. x || (eqb b 34 || eqb b 127)) t)))
    (λ f. ltb-false b 32 f)
    (cases_Bool (ltb b 32)) in
    let high : b ≤ 126 = ⊎_elim
    (λ t. let under : b < 127 = ltb-true b 127 t in omega (arith, under))
    (λ f. last_is_hidden b small (ltb-false b 127 f) plain)
    (cases_Bool (ltb b 127)) in
    (low, high)

escape_is_printable : (b : ℕ) → IsEscapeByte b → IsPrintable b
escape_is_printable b h = ⊎_elim
    (λ e. (omega (arith, e), omega (arith, e)))
    (λ digit. ⊎_elim
    (λ e. (omega (arith, e.0), omega (arith, e.1)))
    (λ e. (omega (arith, e.0), omega (arith, e.1)))
    digit)
    h

-- what is shown of bytes is printable
pub shown_is_printable : (bytes : List ℕ) → All IsPrintable (percent_encode HIDDEN bytes)
shown_is_printable bytes = All-percent_encode IsPrintable HIDDEN bytes kept_is_printable escape_is_printable
