-- A length that is read is one that the bytes spell, and a length that bytes spell is read.
use Rattle.std.proofs.Common.{◌≡◌, ℕ, ◌+◌, ◌-◌, ◌*◌, ◌<◌, ◌⊎◌, Bool, true, false, cond, ltb, List, [], ◌∷◌, ◌++◌}
use Rattle.std.proofs.Common.{length, Result, Ok, Err, refl, sym, ap, subst, ◌∙◌, arith, inl, inr}
use Rattle.std.proofs.lemmas.Bool.{ltb-true, ltb-false, lt-ltb, le-ltb, cond-true, cond-false}
use Rattle.mig_xbzrle.specs.declared.fault.DeltaFault.{DeltaFault}
use Rattle.mig_xbzrle.specs.Delta.{IsLength}
use Rattle.mig_xbzrle.specs.Reading.{◌>>=◌, length_at}

-- the value of a step without a fault
pub bind_ok : {A B : Type 0} (r : Result A DeltaFault) (f : A → Result B DeltaFault) (y : B) → (r >>= f) ≡ Ok y → (x : A) × (r ≡ Ok x) × (f x ≡ Ok y)
bind_ok (Ok x) f y e = (x, refl, e)
bind_ok (Err d) f y e = absurd cc

-- the step after a step without a fault
pub bind_by : {A B : Type 0} (r : Result A DeltaFault) (f : A → Result B DeltaFault) (x : A) → r ≡ Ok x → (r >>= f) ≡ f x
bind_by {A = A} r f x e = ap (λ (q : Result A DeltaFault). q >>= f) e

-- a test that isn't the fault
pub guard_ok : {A : Type 0} (b : Bool) (d : DeltaFault) (r : Result A DeltaFault) (y : A) → cond b (Err d) r ≡ Ok y → (b ≡ false) × (r ≡ Ok y)
guard_ok true d r y e = absurd cc
guard_ok false d r y e = (refl, e)

-- which way a test went
chosen : {A : Type 0} (b : Bool) (x y z : A) → cond b x y ≡ z → ((b ≡ true) × (x ≡ z)) ⊎ ((b ≡ false) × (y ≡ z))
chosen true x y z e = inl (refl, e)
chosen false x y z e = inr (refl, e)

abbrev done : {A : Type 0} → A → Result A DeltaFault
done x = Ok x

pub ok_is : {A : Type 0} (x y : A) → done x ≡ done y → x ≡ y
ok_is x y e = cc

abbrev fails : {A : Type 0} → DeltaFault → Result A DeltaFault
fails d = Err d

pub fault_is : {A : Type 0} (f g : DeltaFault) → fails {A = A} f ≡ fails g → f ≡ g
fault_is f g e = cc

pub ok_no_fault : {A : Type 0} (r : Result A DeltaFault) (x : A) (d : DeltaFault) → r ≡ Ok x → r ≡ Err d → ⊥
ok_no_fault r x d e f = let clash : done x ≡ Err d = sym e ∙ f in cc

-- the bytes begin with a length, and these follow
abbrev pub Begins : List ℕ → ℕ × List ℕ → Type 0
Begins bytes x = (z : List ℕ) × IsLength x.0 z × (bytes ≡ z ++ x.1)

pub length_some : (n : ℕ) (z : List ℕ) → IsLength n z → 0 < length z
length_some n [] h = absurd h
length_some n (b ∷ z) h = omega arith

cells_take : (low high : ℕ) (rest : List ℕ) (f : DeltaFault) (x : ℕ × List ℕ)
    → cond (ltb low 128) (Ok (low, high ∷ rest)) (cond (ltb high 128) (Ok (low - 128 + high * 128, rest)) (Err f)) ≡ Ok x → Begins (low ∷ high ∷ rest) x
cells_take low high rest f x e =
    let P : ℕ × List ℕ → Type 0 = λ y. Begins (low ∷ high ∷ rest) y in
    elim (chosen (ltb low 128) _ _ (done x) e) [
      | inl h ↦ subst P (ok_is (low, high ∷ rest) x h.1) (low ∷ [], (ltb-true low 128 h.0, refl), refl)
      | inr h ↦ elim (chosen (ltb high 128) _ _ (done x) h.1) [
        | inl k ↦ subst P (ok_is (low - 128 + high * 128, rest) x k.1) (low ∷ high ∷ [], (ltb-false low 128 h.0, ltb-true high 128 k.0, refl), refl)
        | inr k ↦ absurd (let clash : Err f ≡ done x = k.1 in cc)
      ]
    ]

pub length_takes : (len : ℕ) (bytes : List ℕ) (x : ℕ × List ℕ) → length_at len bytes ≡ Ok x → Begins bytes x
unfolding length_at
length_takes len [] x e = absurd cc
length_takes len (b ∷ []) x e = absurd cc
length_takes len (b ∷ c ∷ rest) x e = cells_take b c rest _ x (guard_ok _ _ _ x e).1

pub length_again : (len n : ℕ) (z more : List ℕ) → IsLength n z → 0 < length more → length_at len (z ++ more) ≡ Ok (n, more)
unfolding length_at
length_again len n [] more h l = absurd h
length_again len n (b ∷ []) [] h l = absurd (omega arith)
length_again len n (b ∷ []) (c ∷ more) h l =
    cond-false (ltb (length (b ∷ c ∷ more)) 2) _ _ (le-ltb _ 2 (omega arith)) ∙ cond-true (ltb b 128) _ _ (lt-ltb b 128 h.0)
    ∙ ap (λ (k : ℕ). done (k, c ∷ more)) (sym h.1)
length_again len n (b ∷ c ∷ []) more h l =
    cond-false (ltb (length (b ∷ c ∷ more)) 2) _ _ (le-ltb _ 2 (omega arith)) ∙ cond-false (ltb b 128) _ _ (le-ltb b 128 h.0)
    ∙ cond-true (ltb c 128) _ _ (lt-ltb c 128 h.1) ∙ ap (λ (k : ℕ). done (k, more)) (sym h.2)
length_again len n (b ∷ c ∷ d ∷ z) more h l = absurd h

-- Bytes begin with one length.
pub length_one : (n m : ℕ) (a b x y : List ℕ) → IsLength n a → IsLength m b → a ++ x ≡ b ++ y → (n ≡ m) × (x ≡ y)
length_one n m [] b x y h k e = absurd h
length_one n m (p ∷ []) [] x y h k e = absurd k
length_one n m (p ∷ []) (q ∷ []) x y h k e = let s : p ≡ q = cc in (h.1 ∙ s ∙ sym k.1, cc)
length_one n m (p ∷ []) (q ∷ r ∷ []) x y h k e = absurd (let s : p ≡ q = cc in omega (arith, s, h.0, k.0))
length_one n m (p ∷ []) (q ∷ r ∷ t ∷ b) x y h k e = absurd k
length_one n m (p ∷ o ∷ []) [] x y h k e = absurd k
length_one n m (p ∷ o ∷ []) (q ∷ []) x y h k e = absurd (let s : p ≡ q = cc in omega (arith, s, h.0, k.0))
length_one n m (p ∷ o ∷ []) (q ∷ r ∷ []) x y h k e =
    let s : p ≡ q = cc in let t : o ≡ r = cc in
    (h.2 ∙ ap (λ (i : ℕ). i - 128 + o * 128) s ∙ ap (λ (i : ℕ). q - 128 + i * 128) t ∙ sym k.2, cc)
length_one n m (p ∷ o ∷ []) (q ∷ r ∷ t ∷ b) x y h k e = absurd k
length_one n m (p ∷ o ∷ u ∷ a) b x y h k e = absurd h
