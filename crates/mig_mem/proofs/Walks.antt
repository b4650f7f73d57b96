-- A walk over the places of a set in their order.
use Rattle.std.proofs.Common.{ℕ, ◌≡◌, ◌<◌, ◌≤◌, ◌+◌, ◌*◌, ◌^◌, List, [], ◌∷◌, ◌++◌, length, take, drop, get_or, refl, sym, ap, ◌∙◌, inl, inr, arith, zero, suc}
use Rattle.std.proofs.Common.{Option, Some, None, Bool, true, false, not, subst}
use Rattle.std.specs.Prelude.{IsTrue}
use Rattle.std.specs.List.{find, All}
use Rattle.std.proofs.lemmas.Bool.{cases_Bool, or_cases, cases_lt}
use Rattle.std.proofs.lemmas.List.{take-append-drop, drop_more, drop_all, take_all, take_more, length_push}
use Rattle.std.proofs.lemmas.List.Elements.{All-head, All-tail, All-nil, All-push, All-weaker}
use Rattle.std.proofs.lemmas.List.Folds.{find-append}
use Rattle.std.proofs.lemmas.Option.{same_Some}
use Rattle.std.specs.Option.{option_or}
use Rattle.mig_mem.specs.RamTable.{RamTable, block}
use Rattle.mig_mem.proofs.Blocks.{block_room}
use Rattle.mig_mem.proofs.PageSizes.{page_size_some}
use Rattle.mig_mem.specs.declared.place.Place.{Place}
use Rattle.mig_mem.specs.Place.{place_at, place_eq, place_lt, has_place, IsPlace, places}
use Rattle.mig_mem.proofs.TablePlaces.{places_order, has_place-places, place_from_has}
use Rattle.mig_mem.specs.PlaceSet.{PlaceSet, IsPlaceSet, IsFirstIn}
use Rattle.mig_mem.proofs.Members.{InOrder, order_from_AllPairs}
use Rattle.mig_mem.proofs.PlaceOrder.{place_eq-true, place_eq-from, place_lt-true, place_lt-false, place_lt-from, place_ge-from}

-- what holds of each place holds of one of them
pub All-has : (P : Place → Type 0) (p : Place) (ps : List Place) → All P ps → has_place ps p ≡ true → P p
All-has P p [] all h = absurd cc
All-has P p (q ∷ qs) all h = elim (cases_Bool (place_eq q p)) [
  | inl t ↦ let same : q ≡ p = place_eq-true q p t in subst P same (All-head P q qs all)
  | inr n ↦ All-has P p qs (All-tail P q qs all) (elim (or_cases (place_eq q p) (has_place qs p) h) [ inl t ↦ absurd cc | inr t ↦ t ])
]

-- a list of places has its first one
pub has_itself : (q : Place) (qs : List Place) → has_place (q ∷ qs) q ≡ true
has_itself q qs = let t : place_eq q q ≡ true = place_eq-from q q refl in rw t refl

has_later : (q p : Place) (qs : List Place) → has_place qs p ≡ true → has_place (q ∷ qs) p ≡ true
has_later q p qs h = elim (cases_Bool (place_eq q p)) [ inl t ↦ rw t refl | inr n ↦ rw n h ]

-- ---- the first that passes

-- a place of a list in order that passes, if none before it does
pub find_first : (f : Place → Bool) (p : Place) (ps : List Place) → InOrder place_lt ps → has_place ps p ≡ true → f p ≡ true
    → ((q : Place) → has_place ps q ≡ true → place_lt q p ≡ true → f q ≡ false) → find f ps ≡ Some p
find_first f p [] order has passes before = absurd cc
find_first f p (q ∷ qs) order has passes before = elim (cases_Bool (place_eq q p)) [
  | inl t ↦ let same : q ≡ p = place_eq-true q p t in
      let fq : f q ≡ true = ap f same ∙ passes in rw fq (ap (λ (r : Place). Some r) same)
  | inr n ↦
      let later : has_place qs p ≡ true = elim (or_cases (place_eq q p) (has_place qs p) has) [ inl t ↦ absurd cc | inr t ↦ t ] in
      let fq : f q ≡ false = before q (has_itself q qs) (All-has (λ x. IsTrue (place_lt q x)) p qs order.0 later) in
      rw fq (find_first f p qs order.1 later passes (λ r is lt. before r (has_later q r qs is) lt))
]

-- if no place that a list has passes, none is found
pub find_nothing : (f : Place → Bool) (ps : List Place) → ((q : Place) → has_place ps q ≡ true → f q ≡ false) → find f ps ≡ None
find_nothing f [] none = refl
find_nothing f (q ∷ qs) none = let fq : f q ≡ false = none q (has_itself q qs) in rw fq (find_nothing f qs (λ r is. none r (has_later q r qs is)))

-- the least place of a table that passes
pub first_place : (table : RamTable) (f : Place → Bool) (p : Place) → IsPlace table p → f p ≡ true
    → ((q : Place) → IsPlace table q → place_lt q p ≡ true → f q ≡ false)
    → find f (places table) ≡ Some p
first_place table f p is passes before =
    find_first f p (places table) (places_order table) (has_place-places table p is) passes (λ q has lt. before q (place_from_has table q has) lt)

-- if no place of the table passes, none is found
pub no_place : (table : RamTable) (f : Place → Bool) → ((q : Place) → IsPlace table q → f q ≡ false) → find f (places table) ≡ None
no_place table f none = find_nothing f (places table) (λ q has. none q (place_from_has table q has))

-- ---- from a place on

-- the first marked place from a place on is found there
pub first_from : (s : PlaceSet) (from p : Place) → IsPlaceSet s → has_place s.marked p ≡ true → place_lt p from ≡ false
    → ((q : Place) → has_place s.marked q ≡ true → place_lt q p ≡ true → place_lt q from ≡ true) → find (λ q. not (place_lt q from)) s.marked ≡ Some p
first_from s from p is has at before =
    find_first (λ q. not (place_lt q from)) p s.marked (order_from_AllPairs place_lt s.marked is.is_ascending) has (ap not at)
    (λ q in_set lt. ap not (before q in_set lt))

-- if all marked places lie below a place, none is found from it on
pub none_from : (s : PlaceSet) (from : Place) → ((q : Place) → has_place s.marked q ≡ true → place_lt q from ≡ true)
    → find (λ q. not (place_lt q from)) s.marked ≡ None
none_from s from before = find_nothing (λ q. not (place_lt q from)) s.marked (λ q in_set. ap not (before q in_set))

-- how far a walk from a place has come: what it has passed of the set lies before where it began
pub record HasWalked (s : PlaceSet) (from at : Place) : Type 0 where
  pub reached : place_lt at from ≡ false
  pub before : (q : Place) → has_place s.marked q ≡ true → place_lt q at ≡ true → place_lt q from ≡ true

-- before the first step of a walk no place was passed
pub walked_none : (s : PlaceSet) (from : Place) → HasWalked s from from
walked_none s from = record { reached = place_ge-from from from (inr (refl, omega arith)); before = λ q h lt. lt }

-- the rest of a block has none of the set
pub walked_block : (s : PlaceSet) (from : Place) (b page : ℕ) → HasWalked s from (place_at b page)
    → ((q : ℕ) → page ≤ q → has_place s.marked (place_at b q) ≡ false)
    → HasWalked s from (place_at (b + 1) 0)
walked_block s from b page walked none = record {
  reached = place_ge-from (place_at (b + 1) 0) from (inl (elim (place_lt-false (place_at b page) from walked.reached) [
    | inl lt ↦ omega arith
    | inr eq ↦ let e : b ≡ from.block = eq.0 in omega arith
  ]));
  before = λ q h lt. elim (place_lt-true q (place_at (b + 1) 0) lt) [
    | inr at ↦ let no : q.page < 0 = at.1 in absurd (omega arith)
    | inl in_front ↦ elim (cases_lt q.block b) [
      | inl less ↦ walked.before q h (place_lt-from q (place_at b page) (inl less))
      | inr ge ↦
          let e : q.block ≡ b = omega arith in
          elim (cases_lt q.page page) [
            | inl early ↦ walked.before q h (place_lt-from q (place_at b page) (inr (e, early)))
            | inr late ↦
                let no : has_place s.marked (place_at b q.page) ≡ false = none q.page late in
                let yes : has_place s.marked (place_at b q.page) ≡ true = ap (λ (n : ℕ). has_place s.marked (place_at n q.page)) (sym e) ∙ h in absurd cc
          ]
    ]
  ];
}

-- one of the set is found
pub walked_found : (s : PlaceSet) (from : Place) (b page found : ℕ) → IsPlaceSet s → HasWalked s from (place_at b page) → IsFirstIn s b page found
    → find (λ q. not (place_lt q from)) s.marked ≡ Some (place_at b found)
walked_found s from b page found is walked first =
    let low : page ≤ found = first.low in
    first_from s from (place_at b found) is first.has
    (place_ge-from (place_at b found) from (elim (place_lt-false (place_at b page) from walked.reached) [
      | inl lt ↦ inl lt
      | inr eq ↦ let le : from.page ≤ page = eq.1 in inr (eq.0, omega arith)
    ]))
    (λ q h lt. elim (place_lt-true q (place_at b found) lt) [
      | inl less ↦ walked.before q h (place_lt-from q (place_at b page) (inl less))
      | inr at ↦
          let e : q.block ≡ b = at.0 in
          let lt' : q.page < found = at.1 in
          elim (cases_lt q.page page) [
            | inl early ↦ walked.before q h (place_lt-from q (place_at b page) (inr (e, early)))
            | inr late ↦
                let no : has_place s.marked (place_at b q.page) ≡ false = first.before q.page late lt' in
                let yes : has_place s.marked (place_at b q.page) ≡ true = ap (λ (n : ℕ). has_place s.marked (place_at n q.page)) (sym e) ∙ h in absurd cc
          ]
    ])

-- all blocks are passed
pub walked_all : (s : PlaceSet) (from : Place) (b page : ℕ) → IsPlaceSet s → HasWalked s from (place_at b page) → length s.table.blocks ≤ b
    → find (λ q. not (place_lt q from)) s.marked ≡ None
walked_all s from b page is walked past =
    none_from s from (λ q h.
    let at : IsPlace s.table q = All-has (IsPlace s.table) q s.marked is.is_within h in
    let lt : q.block < length s.table.blocks = at.has_block in
    walked.before q h (place_lt-from q (place_at b page) (inl (omega arith))))

-- nothing is found in an empty set
pub found_in_none : (f : Place → Bool) (ps : List Place) → 0 ≡ length ps → None ≡ find f ps
found_in_none f [] none = refl
found_in_none f (p ∷ ps) none = absurd (omega arith)

-- ---- a list of the places, one after another

-- the places so far are the set's first ones, and the others aren't before where the walk goes on
pub record HasListed (s : PlaceSet) (from : Place) (ps : List Place) : Type 0 where
  pub few : length ps ≤ length s.marked
  pub front : ps ≡ take (length ps) s.marked
  pub passed : All (λ q. place_lt q from ≡ true) ps
  pub left : All (λ q. place_lt q from ≡ false) (drop (length ps) s.marked)

-- before the first step of a walk no place was listed
pub listed_none : (s : PlaceSet) → HasListed s (place_at 0 0) []
listed_none s = record {
  few = omega arith;
  front = refl;
  passed = All-nil (λ q. place_lt q (place_at 0 0) ≡ true);
  left = λ k d lt. place_ge-from (get_or s.marked k d) (place_at 0 0) (elim (cases_lt 0 (get_or s.marked k d).block) [
    | inl some ↦ inl some
    | inr none ↦ inr (omega arith, omega arith)
  ]);
}

-- the next place
next_is : (s : PlaceSet) (from : Place) (ps : List Place) → HasListed s from ps
    → find (λ q. not (place_lt q from)) s.marked ≡ find (λ q. not (place_lt q from)) (drop (length ps) s.marked)
next_is s from ps listed =
    let test : Place → Bool = λ q. not (place_lt q from) in
    let none : find test ps ≡ None = find_nothing test ps (λ q h. ap not (All-has (λ r. place_lt r from ≡ true) q ps listed.passed h)) in
    ap (λ (l : List Place). find test l) (sym (take-append-drop (length ps) s.marked)
    ∙ ap (λ (l : List Place). l ++ drop (length ps) s.marked) (sym listed.front))
    ∙ find-append test ps (drop (length ps) s.marked) ∙ ap (λ (o : Option Place). option_or o (find test (drop (length ps) s.marked))) none

-- what is left, at the next place
left_is : (s : PlaceSet) (from : Place) (ps : List Place) → HasListed s from ps → (lt : length ps < length s.marked) (d : Place)
    → find (λ q. not (place_lt q from)) s.marked ≡ Some (get_or s.marked (length ps) d)
left_is s from ps listed lt d =
    let n : ℕ = length ps in
    let q : Place = get_or s.marked n d in
    let split : drop n s.marked ≡ q ∷ drop (n + 1) s.marked = drop_more s.marked n d lt in
    let passes : place_lt q from ≡ false = All-head (λ r. place_lt r from ≡ false) q (drop (n + 1) s.marked) (rw split at listed.left) in
    next_is s from ps listed ∙ ap (λ (l : List Place). find (λ r. not (place_lt r from)) l) split ∙ rw passes refl

-- if no marked place is left, all marked places were listed
pub listed_all : (s : PlaceSet) (from : Place) (ps : List Place) → HasListed s from ps → find (λ q. not (place_lt q from)) s.marked ≡ None → ps ≡ s.marked
listed_all s from ps listed none = elim (cases_lt (length ps) (length s.marked)) [
  | inr ge ↦ listed.front ∙ take_all (length ps) s.marked ge
  | inl lt ↦ let some = left_is s from ps listed lt (place_at 0 0) in absurd cc
]

-- the place after one in its block comes after all that come before it
lt_next : (r from p : Place) → place_lt r from ≡ true → place_lt p from ≡ false → place_lt r (place_at p.block (p.page + 1)) ≡ true
lt_next r from p lt ge = place_lt-from r (place_at p.block (p.page + 1)) (elim (place_lt-true r from lt) [
  | inl a ↦ elim (place_lt-false p from ge) [ inl b ↦ inl (omega arith) | inr b ↦ let e : p.block ≡ from.block = b.0 in inl (omega arith) ]
  | inr a ↦
      let e : r.block ≡ from.block = a.0 in
      let l : r.page < from.page = a.1 in
      elim (place_lt-false p from ge) [
        | inl b ↦ inl (omega arith)
        | inr b ↦ let f : p.block ≡ from.block = b.0 in let m : from.page ≤ p.page = b.1 in inr (omega arith, omega arith)
      ]
])

ge_next : (p r : Place) → place_lt p r ≡ true → place_lt r (place_at p.block (p.page + 1)) ≡ false
ge_next p r lt = place_ge-from r (place_at p.block (p.page + 1)) (elim (place_lt-true p r lt) [
  | inl a ↦ inl a
  | inr a ↦ let e : p.block ≡ r.block = a.0 in let l : p.page < r.page = a.1 in inr (sym e, omega arith)
])

order-drop : (n : ℕ) (ps : List Place) → InOrder place_lt ps → InOrder place_lt (drop n ps)
order-drop zero ps h = h
order-drop (suc n) [] h = tt
order-drop (suc n) (p ∷ ps) h = order-drop n ps h.1

-- the next marked place is listed after those before it, and the walk goes on after it
pub listed_more : (s : PlaceSet) (from p : Place) (ps : List Place) → IsPlaceSet s → HasListed s from ps → find (λ q. not (place_lt q from)) s.marked ≡ Some p
    → HasListed s (place_at p.block (p.page + 1)) (ps ++ p ∷ []) × (length ps < length s.marked)
listed_more s from p ps is listed some = elim (cases_lt (length ps) (length s.marked)) [
  | inr ge ↦
      let none : find (λ q. not (place_lt q from)) s.marked ≡ None =
      next_is s from ps listed ∙ ap (λ (l : List Place). find (λ r. not (place_lt r from)) l) (drop_all (length ps) s.marked ge) in absurd cc
  | inl lt ↦
      let n : ℕ = length ps in
      let same : get_or s.marked n p ≡ p = same_Some (get_or s.marked n p) p (sym (left_is s from ps listed lt p) ∙ some) in
      let split : drop n s.marked ≡ p ∷ drop (n + 1) s.marked = drop_more s.marked n p lt ∙ ap (λ (q : Place). q ∷ drop (n + 1) s.marked) same in
      let ge : place_lt p from ≡ false = All-head (λ r. place_lt r from ≡ false) p (drop (n + 1) s.marked) (rw split at listed.left) in
      let order : InOrder place_lt (drop n s.marked) = order-drop n s.marked (order_from_AllPairs place_lt s.marked is.is_ascending) in
      let after = rw split at order in
      let long : length (ps ++ p ∷ []) ≡ n + 1 = length_push ps p in
      let next : Place = place_at p.block (p.page + 1) in (
        record {
          few = omega arith;
          front = ap (λ (l : List Place). l ++ p ∷ []) listed.front ∙ ap (λ (q : Place). take n s.marked ++ q ∷ []) (sym same)
              ∙ sym (take_more s.marked n p lt) ∙ ap (λ (k : ℕ). take k s.marked) (sym long);
          passed = All-push (λ r. place_lt r next ≡ true) ps p
              (All-weaker (λ r. place_lt r from ≡ true) (λ r. place_lt r next ≡ true) (λ r h. lt_next r from p h ge) ps listed.passed)
              (place_lt-from p next (inr (refl, omega arith)));
          left = rw long (All-weaker (λ r. IsTrue (place_lt p r)) (λ r. place_lt r next ≡ false) (λ r h. ge_next p r h) (drop (n + 1) s.marked) after.0);
        },
        lt,
      )
]

-- what is found is in the set
pub found_place : (f : Place → Bool) (p : Place) (ps : List Place) → find f ps ≡ Some p → has_place ps p ≡ true
found_place f p [] h = absurd cc
found_place f p (q ∷ qs) h = elim (cases_Bool (f q)) [
  | inl t ↦ let some : Some q ≡ Some p = rw t at h in let same : q ≡ p = same_Some q p some in
      ap (λ (r : Place). has_place (q ∷ qs) r) (sym same) ∙ has_itself q qs
  | inr n ↦ has_later q p qs (found_place f p qs (rw n at h))
]

-- and so a page of the table
pub found_page : (s : PlaceSet) (f : Place → Bool) (p : Place) → IsPlaceSet s → find f s.marked ≡ Some p → p.page < 2 ^ 40
found_page s f p is h =
    let at : IsPlace s.table p = All-has (IsPlace s.table) p s.marked is.is_within (found_place f p s.marked h) in
    let bytes : (block s.table.blocks p.block).pages * s.table.page_size ≤ 2 ^ 40 = block_room s.table p.block is.has_table at.has_block in
    let some : 0 < s.table.page_size = page_size_some s.table.page_size is.has_table.has_page_size in
    let few : (block s.table.blocks p.block).pages ≤ (block s.table.blocks p.block).pages * s.table.page_size = grind arith in
    let lt : p.page < (block s.table.blocks p.block).pages = at.has_page in
    omega arith
