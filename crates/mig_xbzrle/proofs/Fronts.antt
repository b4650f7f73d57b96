-- Lawful runs at the front of a delta: one more run, and fronts of one delta beside each other.
use Rattle.std.proofs.Common.{◌≡◌, ℕ, ◌+◌, ◌-◌, ◌<◌, ◌⊎◌, List, [], ◌∷◌, ◌++◌, length, take, drop, Result, Ok, Err}
use Rattle.std.proofs.Common.{refl, sym, ap, subst, ◌∙◌, append_assoc, append-nil, length-append, arith, inl, inr}
use Rattle.std.specs.List.{AllByRecursion}
use Rattle.std.proofs.lemmas.List.{take_at, drop_at, nil_from_length}
use Rattle.mig_xbzrle.specs.declared.fault.DeltaFault.{DeltaFault}
use Rattle.mig_xbzrle.specs.Delta.{Run, Spells, span, IsDelta}
use Rattle.mig_xbzrle.specs.Reading.{run_at, IsRun, IsFront, IsFirstFault}
use Rattle.mig_xbzrle.proofs.Lengths.{length_some, length_one, ok_no_fault, fault_is}
use Rattle.mig_xbzrle.proofs.Runs.{run_takes, run_again}

span-append : (rs qs : List Run) → span (rs ++ qs) ≡ span rs + span qs
span-append [] qs = omega arith
span-append (r ∷ rs) qs = let e = span-append rs qs in omega (arith, e)

all-append : (P : Run → Type 0) (rs qs : List Run) → AllByRecursion P rs → AllByRecursion P qs → AllByRecursion P (rs ++ qs)
all-append P [] qs h k = k
all-append P (r ∷ rs) qs h k = (h.0, all-append P rs qs h.1 k)

all_first : (P : Run → Type 0) (rs : List Run) (q : Run) (qs : List Run) → AllByRecursion P (rs ++ q ∷ qs) → P q
all_first P [] q qs h = h.0
all_first P (r ∷ rs) q qs h = all_first P rs q qs h.1

spells-append : (rs qs : List Run) (a b : List ℕ) → Spells rs a → Spells qs b → Spells (rs ++ qs) (a ++ b)
spells-append [] qs a b h k = subst (λ (z : List ℕ). Spells qs (z ++ b)) (sym h) k
spells-append (r ∷ rs) qs a b h k =
    let inner : (r.bytes ++ h.2) ++ b ≡ r.bytes ++ (h.2 ++ b) = append_assoc r.bytes h.2 b in
    let middle : (h.1 ++ (r.bytes ++ h.2)) ++ b ≡ h.1 ++ (r.bytes ++ (h.2 ++ b)) =
    append_assoc h.1 (r.bytes ++ h.2) b ∙ ap (λ (z : List ℕ). h.1 ++ z) inner in (
      h.0,
      h.1,
      h.2 ++ b,
      h.3,
      h.4,
      ap (λ (z : List ℕ). z ++ b) h.5 ∙ append_assoc h.0 (h.1 ++ (r.bytes ++ h.2)) b ∙ ap (λ (z : List ℕ). h.0 ++ z) middle,
      spells-append rs qs h.2 b h.6 k,
    )

-- a spelled run takes bytes
spells_some : (r : Run) (rs : List Run) (a : List ℕ) → Spells (r ∷ rs) a → 0 < length a
spells_some r rs a h =
    let l = ap length h.5 in let s = length-append h.0 (h.1 ++ (r.bytes ++ h.2)) in let p = length_some r.skip h.0 h.3 in
    omega (arith, l, s, p)

-- the runs of one front begin those of the other
abbrev Leads : List Run → List Run → List ℕ → List ℕ → Type 0
Leads rs qs x y = (tail : List Run) × (t : List ℕ) × (qs ≡ rs ++ tail) × Spells tail t × (x ≡ t ++ y)

leads_more : (r q : Run) (rs qs : List Run) (x y : List ℕ) → r ≡ q → Leads rs qs x y → Leads (r ∷ rs) (q ∷ qs) x y
leads_more r q rs qs x y e h = (h.0, h.1, ap (λ (z : Run). z ∷ qs) (sym e) ∙ ap (λ (z : List Run). r ∷ z) h.2, h.3, h.4)

same_run : (r q : Run) → r.skip ≡ q.skip → r.bytes ≡ q.bytes → r ≡ q
same_run r q e f =
    let F : ℕ → Run = λ k. record { skip = k; bytes = r.bytes } in
    let G : List ℕ → Run = λ b. record { skip = q.skip; bytes = b } in
    ap F e ∙ ap G f

pub fronts : (rs qs : List Run) (a b x y : List ℕ) → Spells rs a → Spells qs b → a ++ x ≡ b ++ y → Leads rs qs x y ⊎ Leads qs rs y x
fronts [] qs a b x y h k e = inl (qs, b, refl, k, ap (λ (z : List ℕ). z ++ x) (sym h) ∙ e)
fronts (r ∷ rs) [] a b x y h k e = inr (r ∷ rs, a, refl, h, ap (λ (z : List ℕ). z ++ y) (sym k) ∙ sym e)
fronts (r ∷ rs) (q ∷ qs) a b x y h k e =
    let left : a ++ x ≡ h.0 ++ (h.1 ++ (r.bytes ++ (h.2 ++ x))) =
    ap (λ (z : List ℕ). z ++ x) h.5 ∙ append_assoc h.0 (h.1 ++ (r.bytes ++ h.2)) x
    ∙ ap (λ (z : List ℕ). h.0 ++ z) (append_assoc h.1 (r.bytes ++ h.2) x ∙ ap (λ (z : List ℕ). h.1 ++ z) (append_assoc r.bytes h.2 x)) in
    let right : b ++ y ≡ k.0 ++ (k.1 ++ (q.bytes ++ (k.2 ++ y))) =
    ap (λ (z : List ℕ). z ++ y) k.5 ∙ append_assoc k.0 (k.1 ++ (q.bytes ++ k.2)) y
    ∙ ap (λ (z : List ℕ). k.0 ++ z) (append_assoc k.1 (q.bytes ++ k.2) y ∙ ap (λ (z : List ℕ). k.1 ++ z) (append_assoc q.bytes k.2 y)) in
    let skip = length_one r.skip q.skip h.0 k.0 (h.1 ++ (r.bytes ++ (h.2 ++ x))) (k.1 ++ (q.bytes ++ (k.2 ++ y))) h.3 k.3 (sym left ∙ e ∙ right) in
    let count = length_one (length r.bytes) (length q.bytes) h.1 k.1 (r.bytes ++ (h.2 ++ x)) (q.bytes ++ (k.2 ++ y)) h.4 k.4 skip.1 in
    let n : ℕ = length r.bytes in
    let bytes : r.bytes ≡ q.bytes = sym (take_at r.bytes (h.2 ++ x) n refl) ∙ ap (take n) count.1 ∙ take_at q.bytes (k.2 ++ y) n (sym count.0) in
    let more : h.2 ++ x ≡ k.2 ++ y = sym (drop_at r.bytes (h.2 ++ x) n refl) ∙ ap (drop n) count.1 ∙ drop_at q.bytes (k.2 ++ y) n (sym count.0) in
    let same = same_run r q skip.0 bytes in
    elim (fronts rs qs h.2 k.2 x y h.6 k.6 more) [
      | inl l ↦ inl (leads_more r q rs qs x y same l)
      | inr l ↦ inr (leads_more q r qs rs y x (sym same) l)
    ]

-- after lawful runs the next of them is lawful there
next_run : (size : ℕ) (delta : List ℕ) (rs : List Run) (u : Run) (us : List Run) (t x y : List ℕ) → IsFront size delta rs x → IsDelta size (rs ++ u ∷ us)
    → Spells (u ∷ us) t → x ≡ t ++ y → (more : List ℕ) × IsRun (length delta) (size - span rs) x u more
next_run size delta rs u us t x y front lawful h e = (
  h.2 ++ y,
  record {
    zrun = h.0;
    nzrun = h.1;
    has_skip = h.3;
    has_count = h.4;
    joined = e ∙ ap (λ (z : List ℕ). z ++ y) h.5 ∙ append_assoc h.0 (h.1 ++ (u.bytes ++ h.2)) y
        ∙ ap (λ (z : List ℕ). h.0 ++ z) (append_assoc h.1 (u.bytes ++ h.2) y ∙ ap (λ (z : List ℕ). h.1 ++ z) (append_assoc u.bytes h.2 y));
    skips = λ l. not_first rs u us (front.bytes) front.spelled lawful.skips
        (let s = ap length front.joined in let p = length-append front.bytes x in omega (arith, l, s, p));
    replaces = all_first (λ r. 0 < length r.bytes) rs u us lawful.replaces;
    within = let w = lawful.within in let s = span-append rs (u ∷ us) in omega (arith, w, s);
  },
)
  where
    not_first : (rs : List Run) (u : Run) (us : List Run) (a : List ℕ) → Spells rs a → AllByRecursion (λ r. 0 < r.skip) (drop 1 (rs ++ u ∷ us))
        → 0 < length a → 0 < u.skip
    not_first [] u us a h k l = absurd (let e = ap length h in omega (arith, e, l))
    not_first (r ∷ rs) u us a h k l = all_first (λ r. 0 < r.skip) rs u us k

-- where lawful runs go on there is no fault
goes_on : (size : ℕ) (delta : List ℕ) (rs qs : List Run) (x y : List ℕ) (f : DeltaFault) → IsFront size delta rs x → IsDelta size qs → Leads rs qs x y
    → 0 < length x → run_at (length delta) (size - span rs) x ≡ Err f → (x ≡ y) × (rs ≡ qs)
goes_on size delta rs qs x y f front lawful l some e = onwards l.0 l.1 l.2 l.3 l.4
  where
    onwards : (tail : List Run) (t : List ℕ) → qs ≡ rs ++ tail → Spells tail t → x ≡ t ++ y → (x ≡ y) × (rs ≡ qs)
    onwards [] t same spelled joined = (joined ∙ ap (λ (z : List ℕ). z ++ y) spelled, sym (same ∙ append-nil rs))
    onwards (u ∷ us) t same spelled joined =
        let P : List Run → Type 0 = λ z. IsDelta size z in
        let next = next_run size delta rs u us t x y front (subst P same lawful) spelled joined in
        absurd (ok_no_fault _ (u, next.0) f (run_again (length delta) (size - span rs) x u next.0 next.1) e)

-- a front of a lawful delta has no fault after it
pub faultless : (size : ℕ) (delta : List ℕ) (qs : List Run) (f : DeltaFault) → Spells qs delta → IsDelta size qs → IsFirstFault size delta f → ⊥
faultless size delta qs f spelled lawful first =
    let front = first.2 in let some = first.3 in
    let e : front.bytes ++ first.1 ≡ delta ++ [] = sym front.joined ∙ sym (append-nil delta) in
    elim (fronts first.0 qs front.bytes delta first.1 [] front.spelled spelled e) [
      | inl l ↦ let same = goes_on size delta first.0 qs first.1 [] f front lawful l some first.4 in let n = ap length same.0 in omega (arith, n, some)
      | inr l ↦ let n = ap length l.4 in let s = length-append l.1 first.1 in omega (arith, n, s, some)
    ]

pub one_list : (delta : List ℕ) (rs qs : List Run) → Spells rs delta → Spells qs delta → rs ≡ qs
one_list delta rs qs h k =
    elim (fronts rs qs delta delta [] [] h k refl) [ inl l ↦ ended rs qs l.0 l.1 l.2 l.3 l.4 | inr l ↦ sym (ended qs rs l.0 l.1 l.2 l.3 l.4) ]
  where
    ended : (rs qs tail : List Run) (t : List ℕ) → qs ≡ rs ++ tail → Spells tail t → [] ≡ t ++ [] → rs ≡ qs
    ended rs qs [] t same h e = sym (same ∙ append-nil rs)
    ended rs qs (u ∷ us) t same h e = absurd (let l = ap length e in let s = length-append t [] in let p = spells_some u us t h in omega (arith, l, s, p))

same_fault : (size : ℕ) (delta : List ℕ) (rs qs : List Run) (x y : List ℕ) (f g : DeltaFault) → (x ≡ y) × (rs ≡ qs)
    → run_at (length delta) (size - span rs) x ≡ Err f → run_at (length delta) (size - span qs) y ≡ Err g → f ≡ g
same_fault size delta rs qs x y f g same e k =
    let F : List Run → List ℕ → Result (Run × List ℕ) DeltaFault = λ r z. run_at (length delta) (size - span r) z in
    fault_is f g (sym e ∙ ap (λ (r : List Run). F r x) same.1 ∙ ap (F qs) same.0 ∙ k)

pub one_fault : (size : ℕ) (delta : List ℕ) (f g : DeltaFault) → IsFirstFault size delta f → IsFirstFault size delta g → f ≡ g
one_fault size delta f g a b =
    elim (fronts a.0 b.0 a.2.bytes b.2.bytes a.1 b.1 a.2.spelled b.2.spelled (sym a.2.joined ∙ b.2.joined)) [
      | inl l ↦ same_fault size delta a.0 b.0 a.1 b.1 f g (goes_on size delta a.0 b.0 a.1 b.1 f a.2 b.2.lawful l a.3 a.4) a.4 b.4
      | inr l ↦ sym (same_fault size delta b.0 a.0 b.1 a.1 g f (goes_on size delta b.0 a.0 b.1 a.1 g b.2 a.2.lawful l b.3 b.4) b.4 a.4)
    ]

-- ---- one run more

pub no_runs : (size : ℕ) (delta : List ℕ) → IsFront size delta [] delta
no_runs size delta = record { bytes = []; spelled = refl; joined = refl; lawful = record { replaces = tt; skips = tt; within = omega arith } }

pub one_more : (size : ℕ) (delta : List ℕ) (rs : List Run) (x : List ℕ) (r : Run) (y : List ℕ) → IsFront size delta rs x
    → run_at (length delta) (size - span rs) x ≡ Ok (r, y) → IsFront size delta (rs ++ r ∷ []) y
one_more size delta rs x r y front e =
    let is = run_takes (length delta) (size - span rs) x (r, y) e in
    let bytes = is.zrun ++ (is.nzrun ++ (r.bytes ++ [])) in
    let whole : x ≡ bytes ++ y = is.joined ∙ sym (append_assoc is.zrun (is.nzrun ++ (r.bytes ++ [])) y
    ∙ ap (λ (z : List ℕ). is.zrun ++ z) (append_assoc is.nzrun (r.bytes ++ []) y ∙ ap (λ (z : List ℕ). is.nzrun ++ z) (append_assoc r.bytes [] y))) in
    record {
      bytes = front.bytes ++ bytes;
      spelled = spells-append rs (r ∷ []) front.bytes bytes front.spelled (is.zrun, is.nzrun, [], is.has_skip, is.has_count, refl, refl);
      joined = front.joined ∙ ap (λ (z : List ℕ). front.bytes ++ z) whole ∙ sym (append_assoc front.bytes bytes y);
      lawful = record {
        replaces = all-append (λ q. 0 < length q.bytes) rs (r ∷ []) front.lawful.replaces (is.replaces, tt);
        skips = after_first rs front.bytes front.spelled front.lawful.skips
            (λ l. is.skips (let s = ap length front.joined in let p = length-append front.bytes x in omega (arith, l, s, p)));
        within = let w = front.lawful.within in let i = is.within in let s = span-append rs (r ∷ []) in omega (arith, w, i, s);
      };
    }
  where
    after_first : (rs : List Run) (a : List ℕ) → Spells rs a → AllByRecursion (λ q. 0 < q.skip) (drop 1 rs) → (0 < length a → 0 < r.skip)
        → AllByRecursion (λ q. 0 < q.skip) (drop 1 (rs ++ r ∷ []))
    after_first [] a h k l = tt
    after_first (q ∷ rs) a h k l = all-append (λ q. 0 < q.skip) rs (r ∷ []) k (l (spells_some q rs a h), tt)

pub span_more : (rs : List Run) (r : Run) → span (rs ++ r ∷ []) ≡ span rs + (r.skip + length r.bytes)
span_more rs r = let e = span-append rs (r ∷ []) in omega (arith, e)

-- a front after which nothing is left is the delta
pub whole_front : (size : ℕ) (delta : List ℕ) (rs : List Run) (x : List ℕ) → IsFront size delta rs x → length x ≡ 0 → Spells rs delta
whole_front size delta rs x front e =
    let P : List ℕ → Type 0 = λ z. Spells rs z in
    subst P (sym (front.joined ∙ ap (λ (z : List ℕ). front.bytes ++ z) (nil_from_length x e) ∙ append-nil front.bytes)) front.spelled
