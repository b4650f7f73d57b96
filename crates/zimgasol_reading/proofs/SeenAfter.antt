-- What a survey has seen after a piece of the stream.
use Rattle.std.proofs.Common.{ℕ, ◌≡◌, ◌≢◌, ◌≤◌, ◌+◌, ◌-◌, ◌<◌, ◌^◌, List, [], ◌++◌, length, drop, min, refl, sym, ap, ◌∙◌, subst, arith}
use Rattle.std.proofs.Math.Nat.{min-eq_left}
use Rattle.std.proofs.Math.Seq.{drop-append-add}
use Rattle.std.proofs.lemmas.List.{length-append, length-drop}
use Rattle.mig_stream.specs.declared.item.StreamState.{StreamState}
use Rattle.mig_stream.specs.declared.item.StreamState.TheVariants.{Reading, Closed, Bad}
use Rattle.zimgasol_course.specs.Seen.{OfStream, SeesPiece}
use Rattle.zimgasol_reading.specs.declared.tail.Tail.{Tail}
use Rattle.zimgasol_reading.specs.TailSeen.{HasSeen}
use Rattle.zimgasol_reading.specs.Tailed.{HasSeenBytes}

-- the bytes of a piece after a place of the whole
pub drop_both : (text piece : List ℕ) (n : ℕ) → length text ≤ n → drop n (text ++ piece) ≡ drop (n - length text) piece
drop_both text piece n le =
    let is : n ≡ length text + (n - length text) = omega (arith, le) in
    ap (λ k. drop k (text ++ piece)) is ∙ drop-append-add text piece (n - length text)

-- the stream is closed in a piece, of which these bytes follow it
pub sees_end : (fed then : ℕ) (before mid after : Tail) (piece rest : List ℕ) (valid : ℕ) (found : StreamState) → found ≡ Closed → mid ≡ before
    → ((text : List ℕ) → fed ≡ length text → fed ≤ valid → valid ≤ length (text ++ piece) → rest ≡ drop valid (text ++ piece))
    → ((text : List ℕ) → length (text ++ rest) < 2 ^ 63 → HasSeen text mid → HasSeen (text ++ rest) after)
    → SeesPiece (HasSeenBytes fed before) (HasSeenBytes then after) piece valid found
sees_end fed then before mid after piece rest valid Reading closed same is look = absurd cc
sees_end fed then before mid after piece rest valid (Bad fault) closed same is look = absurd cc
sees_end fed then before mid after piece rest valid Closed closed same is look = λ text few le within had.
    let here : rest ≡ drop valid (text ++ piece) = is text had.0 (omega (arith, le, had.0)) within in
    let short : length rest < 2 ^ 63 = omega (arith, few, ap (λ (l : List ℕ). length l) here, length-drop valid (text ++ piece)) in
    subst (λ (l : List ℕ). HasSeen l after) here (look [] short (subst (λ (t : Tail). HasSeen [] t) (sym same) had.1))

-- the stream goes on after it
pub sees_rest : (fed then : ℕ) (before after : Tail) (piece : List ℕ) (valid : ℕ) (found : StreamState) → found ≢ Closed
    → then ≡ min (fed + length piece) (2 ^ 64 - 1) → after ≡ before → SeesPiece (HasSeenBytes fed before) (HasSeenBytes then after) piece valid found
sees_rest fed then before after piece valid Closed other is same = absurd (other refl)
sees_rest fed then before after piece valid (Bad fault) other is same = tt
sees_rest fed then before after piece valid Reading other is same = λ text few had. (
  is ∙ min-eq_left (omega (arith, few, had.0, length-append text piece)) ∙ omega (arith, had.0, length-append text piece),
  subst (λ (t : Tail). HasSeen [] t) (sym same) had.1,
)
