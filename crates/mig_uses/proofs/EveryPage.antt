-- How many pages of a table are marked, block after block.
use Rattle.std.proofs.Common.{ℕ, ◌≡◌, ◌<◌, ◌≤◌, ◌+◌, List, [], length, refl, ap, subst, ◌∙◌, inl, inr, arith, Bool, true, false, ◌||◌}
use Rattle.std.specs.Prelude.{◌⊎◌}
use Rattle.std.proofs.lemmas.Bool.{cases_lt}
use Rattle.mig_mem.specs.declared.place.Place.{Place}
use Rattle.mig_mem.specs.RamTable.{RamTable, IsTable, block}
use Rattle.mig_mem.specs.Place.{place_at, place_eq, has_place, IsPlace}
use Rattle.mig_mem.specs.PlaceSet.{PlaceSet, IsPlaceSet, with_place}
use Rattle.mig_mem.proofs.PlaceOrder.{same_place, place_eq-from}
use Rattle.mig_mem.proofs.Sets.{has_place-where, where_set, where_none}

-- the place is in a block before this one, or on a page before this one of the block
abbrev pub IsBefore : ℕ → ℕ → Place → Type 0
IsBefore b page q = (q.block < b) ⊎ ((q.block ≡ b) × (q.page < page))

-- the set of a table has each place before this one
pub record HasAllBefore (table : RamTable) (s : PlaceSet) (b page : ℕ) : Type 0 where
  pub same_table : s.table ≡ table
  pub is_set : IsPlaceSet s
  pub has : (q : Place) → IsPlace table q → IsBefore b page q → has_place s.marked q ≡ true

-- the set without a place is a set of a table's places
pub empty_set : (table : RamTable) → IsTable table → IsPlaceSet (record { table = table; marked = [] })
empty_set table is = subst (λ (ps : List Place). IsPlaceSet (record { table = table; marked = ps }))
    (where_none table (λ _. false) (λ p at. refl)) (where_set table (λ _. false) is)

-- the empty set has each place before the first page of the first block, as there is none
pub none_before : (table : RamTable) (s : PlaceSet) → IsTable table → s ≡ record { table = table; marked = [] } → HasAllBefore table s 0 0
none_before table s is same = record {
  same_table = ap (λ (x : PlaceSet). x.table) same;
  is_set = rw same (empty_set table is);
  has = λ q is before. absurd (elim before [ inl lt ↦ omega (arith, lt) | inr both ↦ omega (arith, both.1) ]);
}

-- the place itself, or one before it
before_or_at : (b page : ℕ) (q : Place) → IsBefore b (page + 1) q → IsBefore b page q ⊎ (q ≡ place_at b page)
before_or_at b page q (inl lt) = inl (inl lt)
before_or_at b page q (inr both) = elim (cases_lt q.page page) [
  | inl lt ↦ inl (inr (both.0, lt))
  | inr ge ↦ inr (same_place q (place_at b page) both.0 (omega (arith, ge, both.1)))
]

or_second : (a b : Bool) → b ≡ true → (a || b) ≡ true
or_second true b e = refl
or_second false b e = e

-- a set with each place before a page has, with that page added, each before the page after it
pub one_more : (table : RamTable) (s : PlaceSet) (b page : ℕ) → HasAllBefore table s b page → HasAllBefore table (with_place s (place_at b page)) b (page + 1)
one_more table s b page so_far = record {
  same_table = so_far.same_table;
  is_set = where_set s.table (λ r. place_eq r (place_at b page) || has_place s.marked r) so_far.is_set.has_table;
  has = λ q is before.
      let p : Place = place_at b page in
      let at : IsPlace s.table q = rw so_far.same_table is in
      has_place-where s.table (λ r. place_eq r p || has_place s.marked r) q at
      ∙ elim (before_or_at b page q before) [
        | inl earlier ↦ let found : has_place s.marked q ≡ true = so_far.has q is earlier in or_second (place_eq q p) (has_place s.marked q) found
        | inr same ↦ let found : place_eq q p ≡ true = place_eq-from q p same in rw found refl
      ];
}

-- a block is done
pub block_done : (table : RamTable) (s : PlaceSet) (b page : ℕ) → (block table.blocks b).pages ≤ page
    → HasAllBefore table s b page → HasAllBefore table s (b + 1) 0
block_done table s b page past so_far = record {
  same_table = so_far.same_table;
  is_set = so_far.is_set;
  has = λ q is before. so_far.has q is (elim (cases_lt q.block b) [
    | inl lt ↦ inl lt
    | inr ge ↦ let same : q.block ≡ b = elim before [ inl lt ↦ omega (arith, ge, lt) | inr both ↦ absurd (omega (arith, both.1)) ] in
        let within : q.page < (block table.blocks b).pages = rw same at is.has_page in inr (same, omega (arith, within, past))
  ]);
}

-- all blocks are done
pub all_done : (table : RamTable) (s : PlaceSet) (b : ℕ) → length table.blocks ≤ b → HasAllBefore table s b 0 → (p : Place)
    → IsPlace table p → has_place s.marked p ≡ true
all_done table s b past so_far p is = so_far.has p is (inl (omega (arith, is.has_block, past)))
