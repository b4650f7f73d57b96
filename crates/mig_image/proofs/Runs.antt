-- A run of pages at the beginning of some bytes, and one more page.
use Rattle.std.proofs.Common.{ℕ, ◌≡◌, ◌+◌, ◌-◌, ◌≤◌, List, ◌++◌, length, take, drop, refl, sym, ap, subst, ◌∙◌, arith, Bool, true, false, not}
use Rattle.std.proofs.Math.Bool.{beq}
use Rattle.std.proofs.Math.Seq.{take-add}
use Rattle.std.proofs.lemmas.List.{length-drop, drop-drop}
use Rattle.std.proofs.lemmas.List.Elements.{All-append}
use Rattle.mig_zero.specs.Zero.{IsZero}

-- how many bytes come before the rest
abbrev pub run_of : List ℕ → List ℕ → ℕ
run_of bytes rest = length bytes - length rest

-- a page is of the kind that is looked for
pub of_kind : (is wanted : Bool) → not (beq is wanted) ≡ false → wanted ≡ true → is ≡ true
of_kind true wanted same e = refl
of_kind false true same e = cc
of_kind false false same e = e

after_page : (bytes rest after : List ℕ) (k : ℕ) → length rest ≤ length bytes → k ≤ length rest → after ≡ drop k rest
    → run_of bytes after ≡ run_of bytes rest + k
after_page bytes rest after k within fits is = let len : length after ≡ length rest - k = ap (λ l. length l) is
    ∙ length-drop k rest in omega (arith, len, within, fits)

-- an end of some bytes is still an end of them with its first k bytes taken off
pub rest_after : (bytes rest after : List ℕ) (k : ℕ) → length rest ≤ length bytes → k ≤ length rest
    → rest ≡ drop (run_of bytes rest) bytes → after ≡ drop k rest
    → (length after ≤ length bytes) × (after ≡ drop (run_of bytes after) bytes)
rest_after bytes rest after k within fits from is =
    let len : length after ≡ length rest - k = ap (λ l. length l) is ∙ length-drop k rest in (
      omega (arith, len, within),
      is ∙ ap (drop k) from ∙ drop-drop k (run_of bytes rest) bytes ∙ ap (λ (n : ℕ). drop n bytes) (sym (after_page bytes rest after k within fits is)),
    )

-- if all bytes before an end are zeros, and its first k are, so are all before what is left of it
pub zeros_after : (bytes rest page after : List ℕ) (k : ℕ) → length rest ≤ length bytes → k ≤ length rest
    → rest ≡ drop (run_of bytes rest) bytes → page ≡ take k rest → after ≡ drop k rest
    → IsZero (take (run_of bytes rest) bytes) → IsZero page → IsZero (take (run_of bytes after) bytes)
zeros_after bytes rest page after k within fits from front is before here =
    let n : ℕ = run_of bytes rest in
    let joined : take n bytes ++ page ≡ take (run_of bytes after) bytes =
    ap (λ l. take n bytes ++ l) (front ∙ ap (take k) from) ∙ sym (take-add n k bytes)
    ∙ ap (λ (i : ℕ). take i bytes) (sym (after_page bytes rest after k within fits is)) in
    subst IsZero joined (All-append (λ b. b ≡ 0) (take n bytes) page before here)
