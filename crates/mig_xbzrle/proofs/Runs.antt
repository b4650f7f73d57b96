-- A run that is read is one that the bytes spell, and a lawful run that bytes spell is read.
use Rattle.std.proofs.Common.{◌≡◌, ℕ, ◌-◌, ◌<◌, ◌≤◌, Bool, true, false, ltb, eqb, ◌&&◌, List, ◌++◌, length}
use Rattle.std.proofs.Common.{take, drop, Ok, refl, sym, ap, subst, ◌∙◌, length-append, arith}
use Rattle.std.proofs.lemmas.Bool.{ltb-true, ltb-false, lt-ltb, le-ltb, eqb-false, ne_eqb, cond-false}
use Rattle.std.proofs.lemmas.List.{take_at, drop_at, take-append-drop, length-take-le}
use Rattle.mig_xbzrle.specs.Delta.{Run, IsLength}
use Rattle.mig_xbzrle.specs.Reading.{length_at, skip_at, bytes_at, run_at, IsRun}
use Rattle.mig_xbzrle.proofs.Lengths.{bind_ok, bind_by, guard_ok, ok_is, length_some, length_takes, length_again}

and_no : (p q : Bool) → (p && q) ≡ false → p ≡ true → q ≡ false
and_no true q e t = e
and_no false q e t = absurd cc

no_and : (p q : Bool) → (p ≡ true → q ≡ false) → (p && q) ≡ false
no_and true q h = h refl
no_and false q h = refl

-- what is read of the bytes skipped
pub record Skips (len room : ℕ) (bytes : List ℕ) (x : ℕ × List ℕ) : Type 0 where
  pub zrun : List ℕ
  pub is_length : IsLength x.0 zrun
  pub joined : bytes ≡ zrun ++ x.1
  pub some : length bytes < len → 0 < x.0
  pub within : x.0 ≤ room

pub skip_takes : (len room : ℕ) (bytes : List ℕ) (x : ℕ × List ℕ) → skip_at len room bytes ≡ Ok x → Skips len room bytes x
unfolding skip_at
skip_takes len room bytes x e =
    let n = bind_ok (length_at len bytes) _ x e in
    let a = guard_ok (ltb (length bytes) len && eqb n.0.0 0) _ _ x n.2 in
    let b = guard_ok (ltb room n.0.0) _ _ x a.1 in
    let t = length_takes len bytes n.0 n.1 in
    let P : ℕ × List ℕ → Type 0 = λ y. Skips len room bytes y in
    subst P (ok_is n.0 x b.1) (record {
      zrun = t.0;
      is_length = t.1;
      joined = t.2;
      some = λ l. let z = eqb-false n.0.0 0 (and_no _ _ a.0 (lt-ltb (length bytes) len l)) in omega (arith, z);
      within = ltb-false room n.0.0 b.0;
    })

-- what is read of the bytes replaced
pub record Replaces (room : ℕ) (bytes : List ℕ) (x : List ℕ × List ℕ) : Type 0 where
  pub nzrun : List ℕ
  pub is_length : IsLength (length x.0) nzrun
  pub joined : bytes ≡ nzrun ++ (x.0 ++ x.1)
  pub some : 0 < length x.0
  pub within : length x.0 ≤ room

pub bytes_take : (len room : ℕ) (bytes : List ℕ) (x : List ℕ × List ℕ) → bytes_at len room bytes ≡ Ok x → Replaces room bytes x
unfolding bytes_at
bytes_take len room bytes x e =
    let n = bind_ok (length_at len bytes) _ x e in
    let a = guard_ok (eqb n.0.0 0) _ _ x n.2 in
    let b = guard_ok (ltb room n.0.0) _ _ x a.1 in
    let c = guard_ok (ltb (length n.0.1) n.0.0) _ _ x b.1 in
    let t = length_takes len bytes n.0 n.1 in
    let l : length (take n.0.0 n.0.1) ≡ n.0.0 = length-take-le n.0.0 n.0.1 (ltb-false (length n.0.1) n.0.0 c.0) in
    let P : List ℕ × List ℕ → Type 0 = λ y. Replaces room bytes y in
    let L : ℕ → Type 0 = λ k. IsLength k t.0 in
    subst P (ok_is (take n.0.0 n.0.1, drop n.0.0 n.0.1) x c.1) (record {
      nzrun = t.0;
      is_length = subst L (sym l) t.1;
      joined = t.2 ∙ ap (λ (s : List ℕ). t.0 ++ s) (sym (take-append-drop n.0.0 n.0.1));
      some = let z = eqb-false n.0.0 0 a.0 in omega (arith, z, l);
      within = let z = ltb-false room n.0.0 b.0 in omega (arith, z, l);
    })

pub run_takes : (len room : ℕ) (bytes : List ℕ) (x : Run × List ℕ) → run_at len room bytes ≡ Ok x → IsRun len room bytes x.0 x.1
unfolding run_at
run_takes len room bytes x e =
    let s = bind_ok (skip_at len room bytes) _ x e in
    let b = bind_ok (bytes_at len (room - s.0.0) s.0.1) _ x s.2 in
    let t = skip_takes len room bytes s.0 s.1 in
    let u = bytes_take len (room - s.0.0) s.0.1 b.0 b.1 in
    let r : Run = record { skip = s.0.0; bytes = b.0.0 } in
    let P : Run × List ℕ → Type 0 = λ y. IsRun len room bytes y.0 y.1 in
    subst P (ok_is (r, b.0.1) x b.2) (record {
      zrun = t.zrun;
      nzrun = u.nzrun;
      has_skip = t.is_length;
      has_count = u.is_length;
      joined = t.joined ∙ ap (λ (z : List ℕ). t.zrun ++ z) u.joined;
      skips = t.some;
      replaces = u.some;
      within = let i = t.within in let j = u.within in omega (arith, i, j);
    })

skip_again : (len room n : ℕ) (z more : List ℕ) → IsLength n z → 0 < length more → (length (z ++ more) < len → 0 < n) → n ≤ room
    → skip_at len room (z ++ more) ≡ Ok (n, more)
unfolding skip_at
skip_again len room n z more h l first within =
    bind_by (length_at len (z ++ more)) _ (n, more) (length_again len n z more h l)
    ∙ cond-false (ltb (length (z ++ more)) len && eqb n 0) _ _ (no_and _ _ (λ t. ne_eqb n 0 (λ e. let i = first (ltb-true _ len t) in omega (arith, i, e))))
    ∙ cond-false (ltb room n) _ _ (le-ltb room n within)

bytes_again : (len room : ℕ) (bs z more : List ℕ) → IsLength (length bs) z → 0 < length bs → length bs ≤ room
    → bytes_at len room (z ++ (bs ++ more)) ≡ Ok (bs, more)
unfolding bytes_at
bytes_again len room bs z more h some within =
    let sum = length-append bs more in
    bind_by (length_at len (z ++ (bs ++ more))) _ (length bs, bs ++ more) (length_again len (length bs) z (bs ++ more) h (omega (arith, sum)))
    ∙ cond-false (eqb (length bs) 0) _ _ (ne_eqb (length bs) 0 (λ e. omega (arith, e)))
    ∙ cond-false (ltb room (length bs)) _ _ (le-ltb room (length bs) within)
    ∙ cond-false (ltb (length (bs ++ more)) (length bs)) _ _ (le-ltb _ (length bs) (omega (arith, sum)))
    ∙ ap (λ (t : List ℕ). Ok (t, drop (length bs) (bs ++ more))) (take_at bs more (length bs) refl)
    ∙ ap (λ (t : List ℕ). Ok (bs, t)) (drop_at bs more (length bs) refl)

pub run_again : (len room : ℕ) (bytes : List ℕ) (r : Run) (more : List ℕ) → IsRun len room bytes r more → run_at len room bytes ≡ Ok (r, more)
unfolding run_at
run_again len room bytes r more h =
    let left = h.nzrun ++ (r.bytes ++ more) in
    let long = length-append h.nzrun (r.bytes ++ more) in
    let some = length_some (length r.bytes) h.nzrun h.has_count in
    let within = h.within in
    let first : length (h.zrun ++ left) < len → 0 < r.skip = λ l. h.skips (let e = ap length h.joined in omega (arith, l, e)) in
    let s : skip_at len room bytes ≡ Ok (r.skip, left) =
    ap (skip_at len room) h.joined ∙ skip_again len room r.skip h.zrun left h.has_skip (omega (arith, long, some)) first (omega (arith, within)) in
    let b : bytes_at len (room - r.skip) left ≡ Ok (r.bytes, more) =
    bytes_again len (room - r.skip) r.bytes h.nzrun more h.has_count h.replaces (omega (arith, within)) in
    bind_by (skip_at len room bytes) _ (r.skip, left) s ∙ bind_by (bytes_at len (room - r.skip) left) _ (r.bytes, more) b
