-- What a tail looked at, one piece on.
use Rattle.std.proofs.Common.{ℕ, ◌≡◌, ◌+◌, ◌-◌, ◌<◌, ◌^◌, List, [], ◌∷◌, ◌++◌, length, replicate, min, Some, sym, ap, ◌∙◌, subst, arith, All}
use Rattle.std.specs.Prelude.{slice_get}
use Rattle.std.proofs.lemmas.List.{append_assoc, length-append, length-replicate, replicate-append-replicate}
use Rattle.zimgasol_reading.specs.TailSeen.{HasSeen, IsWindow}
use Rattle.zimgasol_reading.specs.declared.tail.Tail.{Tail}
use Rattle.zimgasol_reading.proofs.TailLists.{zeros_are}

pub length-seen : (text : List ℕ) (tail : Tail) (seen : HasSeen text tail) → length text ≡ length seen.before + tail.zeros
length-seen text tail seen =
    ap (λ (l : List ℕ). length l) seen.is_text ∙ length-append seen.before (replicate tail.zeros 0)
    ∙ ap (λ (k : ℕ). length seen.before + k) (length-replicate {A = ℕ} tail.zeros 0)

-- zeros alone
pub looked_zeros : (text piece bytes zeros : List ℕ) (old new : Tail) → length (text ++ piece) < 2 ^ 63 → HasSeen text old → piece ≡ bytes ++ zeros
    → bytes ≡ [] → All (λ byte. byte ≡ 0) zeros → new.is_checked ≡ old.is_checked → new.first ≡ slice_get (text ++ piece) 0 → new.window ≡ old.window
    → new.zeros ≡ min (old.zeros + length zeros) (2 ^ 64 - 1) → HasSeen (text ++ piece) new
looked_zeros text piece bytes zeros old new small seen split none are_zero checked first window is_zeros =
    let all : piece ≡ zeros = split ∙ ap (λ (l : List ℕ). l ++ zeros) none in
    let count : new.zeros ≡ old.zeros + length zeros =
    omega (arith, is_zeros, small, length-append text piece, length-seen text old seen, ap (λ (l : List ℕ). length l) all) in
    record {
      is_checked = checked ∙ seen.is_checked;
      has_first = first;
      before = seen.before;
      is_text = ap (λ (l : List ℕ). l ++ piece) seen.is_text ∙ append_assoc seen.before (replicate old.zeros 0) piece
          ∙ ap (λ (l : List ℕ). seen.before ++ (replicate old.zeros 0 ++ l)) (all ∙ zeros_are zeros are_zero)
          ∙ ap (λ (l : List ℕ). seen.before ++ l) (replicate-append-replicate old.zeros (length zeros) 0)
          ∙ ap (λ (k : ℕ). seen.before ++ replicate k 0) (sym count);
      has_window = subst (λ w. IsWindow seen.before w) (sym window) seen.has_window;
    }

pub looked : (text piece bytes zeros : List ℕ) (old new : Tail) (seen : HasSeen text old) → piece ≡ bytes ++ zeros
    → All (λ byte. byte ≡ 0) zeros → new.is_checked ≡ old.is_checked → new.first ≡ slice_get (text ++ piece) 0
    → IsWindow (seen.before ++ replicate old.zeros 0 ++ bytes) new.window → new.zeros ≡ length zeros → HasSeen (text ++ piece) new
looked text piece bytes zeros old new seen split are_zero checked first window is_zeros =
    let before : List ℕ = seen.before ++ replicate old.zeros 0 in
    record {
      is_checked = checked ∙ seen.is_checked;
      has_first = first;
      before = before ++ bytes;
      is_text = ap (λ (l : List ℕ). l ++ piece) seen.is_text ∙ ap (λ (l : List ℕ). before ++ l) split ∙ sym (append_assoc before bytes zeros)
          ∙ ap (λ (l : List ℕ). before ++ bytes ++ l) (zeros_are zeros are_zero) ∙ ap (λ (k : ℕ). before ++ bytes ++ replicate k 0) (sym is_zeros);
      has_window = window;
    }

-- ---- the end byte alone

pub one_byte : (text : List ℕ) → slice_get text 0 ≡ Some 0 → length text ≡ 1 → text ≡ 0 ∷ []
one_byte [] is one = absurd cc
one_byte (b ∷ []) is one = ap (λ (k : ℕ). k ∷ []) cc
one_byte (b ∷ c ∷ rest) is one = absurd (omega (arith, one))

pub total-seen : (text : List ℕ) (tail : Tail) (total : ℕ) → length text < 2 ^ 63 → HasSeen text tail
    → total ≡ min (tail.window.len + tail.zeros) (2 ^ 64 - 1) → total ≡ length text
total-seen text tail total small seen is = omega (arith, is, small, length-seen text tail seen, (seen.has_window).has_len)
