-- Places in their order: by block, then page.
use Rattle.std.proofs.Common.{ℕ, ◌≡◌, ◌<◌, ◌≤◌, sym, ap, ◌∙◌, inl, inr, arith, true, false}
use Rattle.std.specs.Prelude.{◌⊎◌, nat_lt, ◌==◌, ◌&&◌}
use Rattle.std.specs.Cmp.{IsStrictWeakOrder}
use Rattle.std.proofs.lemmas.Bool.{cases_Bool, or_cases, and_parts, or_parts, and_cases, ltb-true, ltb-false, lt-ltb, eqb-true, eqb-false, cases_order}
use Rattle.std.proofs.lemmas.Bool.{cases_eq, eq-eqb, and_from, or_left, or_right}
use Rattle.mig_mem.specs.declared.place.Place.{Place}
use Rattle.mig_mem.specs.Place.{place_eq, place_lt}

-- places of one block and one page are equal
pub same_place : (q p : Place) → q.block ≡ p.block → q.page ≡ p.page → q ≡ p
same_place q p b g = ap (λ (n : ℕ). record { block = n; page = q.page }) b ∙ ap (λ (n : ℕ). record { block = p.block; page = n }) g

-- a place below another lies in an earlier block, or at a lower page of its block
pub place_lt-true : (p q : Place) → place_lt p q ≡ true → (p.block < q.block) ⊎ ((p.block ≡ q.block) × (p.page < q.page))
place_lt-true p q h = elim (or_cases (nat_lt p.block q.block) (p.block == q.block && nat_lt p.page q.page) h) [
  | inl e ↦ inl (ltb-true p.block q.block e)
  | inr e ↦ let both = and_parts (p.block == q.block) (nat_lt p.page q.page) e in inr (eqb-true p.block q.block both.0, ltb-true p.page q.page both.1)
]

-- a place that isn't below another lies in a later block, or in its block at its page or above
pub place_lt-false : (p q : Place) → place_lt p q ≡ false → (q.block < p.block) ⊎ ((p.block ≡ q.block) × (q.page ≤ p.page))
place_lt-false p q h =
    let both = or_parts (nat_lt p.block q.block) (p.block == q.block && nat_lt p.page q.page) h in
    let le : q.block ≤ p.block = ltb-false p.block q.block both.0 in
    elim (and_cases (p.block == q.block) (nat_lt p.page q.page) both.1) [
      | inl ne ↦ elim (cases_order p.block q.block) [
        | inl e ↦ absurd (eqb-false p.block q.block ne e)
        | inr lt ↦ inl (elim lt [ inl a ↦ absurd (omega arith) | inr b ↦ b ])
      ]
      | inr ge ↦ elim (cases_eq p.block q.block) [ inl e ↦ inr (e, ltb-false p.page q.page ge) | inr ne ↦ inl (omega arith) ]
    ]

-- a place in an earlier block, or at a lower page of the same block, is below
pub place_lt-from : (p q : Place) → (p.block < q.block) ⊎ ((p.block ≡ q.block) × (p.page < q.page)) → place_lt p q ≡ true
place_lt-from p q h = elim h [
  | inl a ↦ or_left (nat_lt p.block q.block) (p.block == q.block && nat_lt p.page q.page) (lt-ltb p.block q.block a)
  | inr b ↦ or_right (nat_lt p.block q.block) (p.block == q.block && nat_lt p.page q.page)
      (and_from (p.block == q.block) (nat_lt p.page q.page) (eq-eqb p.block q.block b.0) (lt-ltb p.page q.page b.1))
]

-- a place in a later block, or in the same block at the same page or above, isn't below
pub place_ge-from : (p q : Place) → (q.block < p.block) ⊎ ((p.block ≡ q.block) × (q.page ≤ p.page)) → place_lt p q ≡ false
place_ge-from p q h = elim (cases_Bool (place_lt p q)) [
  | inr e ↦ e
  | inl e ↦ absurd (elim (place_lt-true p q e) [
    | inl a ↦ elim h [ inl b ↦ omega arith | inr b ↦ let e1 : p.block ≡ q.block = b.0 in omega arith ]
    | inr a ↦ let e2 : p.block ≡ q.block = a.0 in let l2 : p.page < q.page = a.1 in
        elim h [ inl b ↦ omega arith | inr b ↦ let l3 : q.page ≤ p.page = b.1 in omega arith ]
  ])
]

-- places stand in a strict weak order
pub place_order : IsStrictWeakOrder place_lt
place_order = record {
  one_way = λ x y h. place_ge-from y x (elim (place_lt-true x y h) [ inl a ↦ inl a | inr b ↦ inr (sym b.0, let l : x.page < y.page = b.1 in omega arith) ]);
  chain = λ x y z h k. place_ge-from x z (elim (place_lt-false x y h) [
    | inl a ↦ elim (place_lt-false y z k) [ inl b ↦ inl (omega arith) | inr b ↦ let e : y.block ≡ z.block = b.0 in inl (omega arith) ]
    | inr a ↦ let e : x.block ≡ y.block = a.0 in let l : y.page ≤ x.page = a.1 in
        elim (place_lt-false y z k) [ inl b ↦ inl (omega arith) | inr b ↦ let l2 : z.page ≤ y.page = b.1 in inr (e ∙ b.0, omega arith) ]
  ]);
}

-- of two places of which neither is below the other, both are one
pub places_apart : (x y : Place) → place_lt x y ≡ false → place_lt y x ≡ false → x ≡ y
places_apart x y h k = elim (place_lt-false x y h) [
  | inl a ↦ elim (place_lt-false y x k) [ inl b ↦ absurd (omega arith) | inr b ↦ let e : y.block ≡ x.block = b.0 in absurd (omega arith) ]
  | inr a ↦ elim (place_lt-false y x k) [
    | inl b ↦ let e : x.block ≡ y.block = a.0 in absurd (omega arith)
    | inr b ↦ let l : y.page ≤ x.page = a.1 in let l2 : x.page ≤ y.page = b.1 in same_place x y a.0 (omega arith)
  ]
]

-- places that the test finds equal are equal
pub place_eq-true : (p q : Place) → place_eq p q ≡ true → p ≡ q
place_eq-true p q h = let both = and_parts (p.block == q.block) (p.page == q.page) h in
    same_place p q (eqb-true p.block q.block both.0) (eqb-true p.page q.page both.1)

-- the test finds equal places equal
pub place_eq-from : (p q : Place) → p ≡ q → place_eq p q ≡ true
place_eq-from p q e = and_from (p.block == q.block) (p.page == q.page) (eq-eqb p.block q.block (ap (λ (r : Place). r.block) e))
    (eq-eqb p.page q.page (ap (λ (r : Place). r.page) e))

-- a place before another isn't that one
pub place_lt-ne : (p q : Place) → place_lt p q ≡ true → place_eq p q ≡ false
place_lt-ne p q h = elim (cases_Bool (place_eq p q)) [
  | inr e ↦ e
  | inl e ↦ let same : p ≡ q = place_eq-true p q e in
      elim (place_lt-true p q h) [
        | inl a ↦ let b : p.block ≡ q.block = ap (λ (r : Place). r.block) same in absurd (omega arith)
        | inr a ↦ let b : p.page ≡ q.page = ap (λ (r : Place). r.page) same in let l : p.page < q.page = a.1 in absurd (omega arith)
      ]
]

-- if one place isn't another, the other isn't the one
pub place_eq-flip : (p q : Place) → place_eq p q ≡ false → place_eq q p ≡ false
place_eq-flip p q h = elim (cases_Bool (place_eq q p)) [
  | inr e ↦ e
  | inl e ↦ let t : place_eq p q ≡ true = place_eq-from p q (sym (place_eq-true q p e)) in absurd cc
]
