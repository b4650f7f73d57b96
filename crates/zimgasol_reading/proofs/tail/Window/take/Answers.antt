use Rattle.std.proofs.Common.{rules, ℕ, ◌≡◌, ◌≢◌, ◌⊎◌, ◌<◌, ◌^◌, ◌∙◌, List, [], ◌∷◌, ◌++◌, length, sym, ap, subst, refl, inl, inr, append_assoc, arith}
use Rattle.std.proofs.lemmas.List.{length-append, nil_from_length}
use Rattle.std.proofs.lemmas.Result.{on_ok_weaker}
use Rattle.zimgasol_reading.specs.TailSeen.{IsWindow}
use Rattle.zimgasol_reading.proofs.tail.Window.take.Goals as goal

pub returns-then-is_empty : goal.returns-then-is_empty
returns-then-is_empty c =
    let piece : List ℕ = c.args.piece.now in
    let rest : List ℕ = c.split_at_zero.result.1.now in
    let none : length c.split_at_zero.result.0.now ≡ 0 = search rules in
    let same : rest ≡ piece = sym (c.split_at_zero.ensures.split ∙ ap (λ (l : List ℕ). l ++ rest) (nil_from_length c.split_at_zero.result.0.now none)) in
    on_ok_weaker c.extend.result (λ ensured. λ bytes small at. subst (λ (l : List ℕ). IsWindow (bytes ++ l) c.extend.new.self) same
    (ensured bytes (subst (λ (l : List ℕ). length (bytes ++ l) < 2 ^ 63) (sym same) small) c.split_at_zero.ensures.rest at)) c.extend.ensures

-- the front ends with a zero byte, since there is one
some_front : (front : List ℕ) → (front ≡ []) ⊎ ((x : List ℕ) × (front ≡ x ++ 0 ∷ [])) → length front ≢ 0 → (x : List ℕ) × (front ≡ x ++ 0 ∷ [])
some_front front (inl none) some = absurd (some (ap (λ (l : List ℕ). length l) none))
some_front front (inr zero) some = zero

pub returns : goal.returns
returns c =
    let piece : List ℕ = c.args.piece.now in
    let front : List ℕ = c.split_at_zero.result.0.now in
    let rest : List ℕ = c.split_at_zero.result.1.now in
    let some : length front ≢ 0 = search rules in
    on_ok_weaker c.extend-2.result (λ ensured. λ bytes small at.
    let all : bytes ++ front ++ rest ≡ bytes ++ piece = append_assoc bytes front rest ∙ ap (λ (l : List ℕ). bytes ++ l) (sym c.split_at_zero.ensures.split) in
    let fits : length (bytes ++ front ++ rest) < 2 ^ 63 = subst (λ (l : List ℕ). length l < 2 ^ 63) (sym all) small in
    let begun : IsWindow (bytes ++ front) c.restart.new.self = c.in_ok-restart.ensures bytes front
    (omega (arith, fits, length-append (bytes ++ front) rest, length-append bytes front)) refl refl (some_front front c.split_at_zero.ensures.zero some) at in
    subst (λ (l : List ℕ). IsWindow l c.extend-2.new.self) all (ensured (bytes ++ front) fits c.split_at_zero.ensures.rest begun)) c.extend-2.ensures
