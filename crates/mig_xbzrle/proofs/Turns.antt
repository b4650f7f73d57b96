-- One turn of the loops that read a delta.
use Rattle.std.proofs.Common.{◌≡◌, ℕ, zero, suc, inl, inr, ◌⊎◌, Result, ◌+◌, ◌-◌, ◌<◌, ◌≤◌, Bool, false, eqb, List, []}
use Rattle.std.proofs.Common.{◌∷◌, ◌++◌, length, Ok, Err, refl, sym, ap, subst, ◌∙◌, length-append, arith}
use Rattle.std.proofs.lemmas.Bool.{eqb-false}
use Rattle.mig_xbzrle.specs.declared.fault.DeltaFault.{DeltaFault}
use Rattle.mig_xbzrle.specs.Delta.{Run, Spells, IsDelta, span, IsPageAfter}
use Rattle.mig_xbzrle.specs.Reading.{run_at, IsFront, IsFirstFault}
use Rattle.mig_xbzrle.proofs.Runs.{run_takes}
use Rattle.mig_xbzrle.proofs.Fronts.{no_runs, one_more, span_more, whole_front}
use Rattle.mig_xbzrle.proofs.Pages.{written, length-written, page_more}

pub not_empty : (b : Bool) (n : ℕ) → b ≡ eqb n 0 → b ≡ false → 0 < n
not_empty b n e f = let z = eqb-false n 0 (sym e ∙ f) in omega (arith, z)

pub record Turn (size : ℕ) (delta : List ℕ) (rs : List Run) (x : List ℕ) (from : ℕ) (r : Run) (y : List ℕ) : Type 0 where
  pub front : IsFront size delta (rs ++ r ∷ []) y
  pub reaches : from + (r.skip + length r.bytes) ≡ span (rs ++ r ∷ [])
  pub within : from + (r.skip + length r.bytes) ≤ size
  pub shorter : length y < length x

-- a run that is read after lawful runs
pub turn : (size : ℕ) (delta : List ℕ) (rs : List Run) (x : List ℕ) (from room : ℕ) (r : Run) (y : List ℕ) → IsFront size delta rs x → from ≡ span rs
    → room ≡ size - from → run_at (length delta) room x ≡ Ok (r, y) → Turn size delta rs x from r y
turn size delta rs x from room r y front at left e =
    let same : room ≡ size - span rs = left ∙ ap (λ (k : ℕ). size - k) at in
    let read : run_at (length delta) (size - span rs) x ≡ Ok (r, y) = ap (λ (k : ℕ). run_at (length delta) k x) (sym same) ∙ e in
    let is = run_takes (length delta) (size - span rs) x (r, y) read in
    let w = is.within in let b = is.replaces in let f = front.lawful.within in
    let j = ap length is.joined in
    let l = length-append is.zrun (is.nzrun ++ (r.bytes ++ y)) in let m = length-append is.nzrun (r.bytes ++ y) in let n = length-append r.bytes y in
    record {
      front = one_more size delta rs x r y front read;
      reaches = ap (λ (k : ℕ). k + (r.skip + length r.bytes)) at ∙ sym (span_more rs r);
      within = omega (arith, w, f, at);
      shorter = omega (arith, b, j, l, m, n);
    }

-- the fault that is read after lawful runs
pub fault_first : (size : ℕ) (delta : List ℕ) (rs : List Run) (x : List ℕ) (from room : ℕ) (f : DeltaFault) → IsFront size delta rs x → from ≡ span rs
    → room ≡ size - from → 0 < length x → run_at (length delta) room x ≡ Err f → IsFirstFault size delta f
fault_first size delta rs x from room f front at left some e =
    let same : room ≡ size - span rs = left ∙ ap (λ (k : ℕ). size - k) at in
    (rs, x, front, some, ap (λ (k : ℕ). run_at (length delta) k x) (sym same) ∙ e)

-- a run that is applied after others
pub apply_turn : (old page new delta : List ℕ) (rs : List Run) (x : List ℕ) (from room : ℕ) (r : Run) (y : List ℕ)
    → IsFront (length page) delta rs x → from ≡ span rs
    → IsPageAfter old rs page → room ≡ length page - from → run_at (length delta) room x ≡ Ok (r, y) → new ≡ written page (from + r.skip) r.bytes
    → (qs : List Run) × IsFront (length new) delta qs y × (from + (r.skip + length r.bytes) ≡ span qs) × IsPageAfter old qs new
apply_turn old page new delta rs x from room r y front at after left e is =
    let t = turn (length page) delta rs x from room r y front at left e in
    let w = t.within in
    let len : length new ≡ length page = ap length is ∙ length-written page (from + r.skip) r.bytes (omega (arith, w)) in
    let F : ℕ → Type 0 = λ n. IsFront n delta (rs ++ r ∷ []) y in
    let P : List ℕ → Type 0 = λ z. IsPageAfter old (rs ++ r ∷ []) z in
    let same : new ≡ written page (span rs + r.skip) r.bytes = is ∙ ap (λ (k : ℕ). written page (k + r.skip) r.bytes) at in
    (rs ++ r ∷ [], subst F (sym len) t.front, t.reaches, subst P (sym same) (page_more old rs page r after (omega (arith, w, at))))

-- what a reading came to
outcome : {A : Type 0} (r : Result A DeltaFault) → ((x : A) × (r ≡ Ok x)) ⊎ ((f : DeltaFault) × (r ≡ Err f))
outcome (Ok x) = inl (x, refl)
outcome (Err f) = inr (f, refl)

-- a front of lawful runs leads to a lawful delta or to a fault
read_on : (n size : ℕ) (delta : List ℕ) (rs : List Run) (x : List ℕ) → length x ≤ n → IsFront size delta rs x
    → ((runs : List Run) × Spells runs delta × IsDelta size runs) ⊎ ((f : DeltaFault) × IsFirstFault size delta f)
read_on n size delta rs [] l front = inl (rs, whole_front size delta rs [] front refl, front.lawful)
read_on zero size delta rs (b ∷ x) l front = absurd (omega arith)
read_on (suc n) size delta rs (b ∷ x) l front =
    elim (outcome (run_at (length delta) (size - span rs) (b ∷ x))) [
      | inl o ↦ let t = turn size delta rs (b ∷ x) (span rs) (size - span rs) o.0.0 o.0.1 front refl refl o.1 in let s = t.shorter in
          read_on n size delta (rs ++ o.0.0 ∷ []) o.0.1 (omega (arith, s, l)) t.front
      | inr o ↦ inr (o.0, (rs, b ∷ x, front, omega arith, o.1))
    ]

pub has_reading : (size : ℕ) (delta : List ℕ) → ((runs : List Run) × Spells runs delta × IsDelta size runs) ⊎ ((f : DeltaFault) × IsFirstFault size delta f)
has_reading size delta = read_on (length delta) size delta [] delta (omega arith) (no_runs size delta)
