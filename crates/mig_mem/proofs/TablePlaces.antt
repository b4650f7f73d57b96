-- The places of a table: which they are, and that they ascend.
use Rattle.std.proofs.Common.{ℕ, ◌≡◌, ◌<◌, ◌+◌, List, [], ◌∷◌, length, map, refl, ap, ◌∙◌, inl, inr, arith, zero, suc, Some, None, Bool, true, false}
use Rattle.std.specs.Prelude.{IsTrue}
use Rattle.std.specs.List.{range_with_len, list_any, find, flat_map, All}
use Rattle.std.proofs.lemmas.Bool.{cases_Bool, or_parts, or_cases}
use Rattle.std.proofs.lemmas.List.Elements.{All-map}
use Rattle.std.proofs.lemmas.List.Folds.{Any-from_list_any}
use Rattle.mig_mem.specs.declared.place.Place.{Place}
use Rattle.mig_mem.specs.RamTable.{Block, RamTable, block}
use Rattle.mig_mem.specs.Place.{place_at, place_eq, place_lt, has_place, IsPlace, block_places, places}
use Rattle.mig_mem.proofs.Members.{InOrder, order-append, All-flat_map, All-range, All-any, list_any-flat_map, list_any-map, list_any_range}
use Rattle.mig_mem.proofs.PlaceOrder.{place_eq-true, place_eq-from, place_lt-from}

-- ---- which they are

-- each of the table's places lies in the table
pub all_places : (table : RamTable) → All (IsPlace table) (places table)
unfolding places
all_places table =
    All-flat_map (IsPlace table) (block_places table.blocks) (range_with_len 0 (length table.blocks))
    (All-range (λ b. All (IsPlace table) (block_places table.blocks b)) 0 (length table.blocks) (λ b _ hb.
    All-map (IsPlace table) (place_at b) (range_with_len 0 (block table.blocks b).pages)
    (All-range (λ page. IsPlace table (place_at b page)) 0 (block table.blocks b).pages
    (λ page _ hp. record { has_block = omega arith; has_page = omega arith }))))

-- a place that lies in the table is among the table's places
pub has_place-places : (table : RamTable) (p : Place) → IsPlace table p → has_place (places table) p ≡ true
unfolding places
has_place-places table p is =
    let test : Place → Bool = λ q. place_eq q p in
    list_any-flat_map test (block_places table.blocks) (range_with_len 0 (length table.blocks))
    ∙ list_any_range (λ b. list_any test (block_places table.blocks b)) 0 (length table.blocks) p.block (omega arith)
    (let h : p.block < length table.blocks = is.has_block in omega arith)
    (list_any-map test (place_at p.block) (range_with_len 0 (block table.blocks p.block).pages)
    ∙ list_any_range (λ page. test (place_at p.block page)) 0 (block table.blocks p.block).pages p.page (omega arith)
    (let h : p.page < (block table.blocks p.block).pages = is.has_page in omega arith)
    (place_eq-from (place_at p.block p.page) p refl))

-- what is among the table's places lies in the table
pub place_from_has : (table : RamTable) (p : Place) → has_place (places table) p ≡ true → IsPlace table p
place_from_has table p h =
    let some = Any-from_list_any (λ q. place_eq q p) (places table) h in
    let at : IsPlace table some.1 = let here : IsPlace table _ = all_places table some.0 some.1 some.2 in rw some.3 at here in
    let same : some.1 ≡ p = place_eq-true some.1 p some.4 in rw same at at

-- ---- that they ascend

range_order : (b a n : ℕ) → InOrder place_lt (map (place_at b) (range_with_len a n))
range_order b a zero = tt
range_order b a (suc n) = (
  All-map (λ q. IsTrue (place_lt (place_at b a) q)) (place_at b) (range_with_len (a + 1) n)
      (All-range (λ k. IsTrue (place_lt (place_at b a) (place_at b k))) (a + 1) n
      (λ k lo hi. place_lt-from (place_at b a) (place_at b k) (inr (refl, omega arith)))),
  range_order b (a + 1) n,
)

blocks_order : (blocks : List Block) (a n : ℕ) → InOrder place_lt (flat_map (block_places blocks) (range_with_len a n))
blocks_order blocks a zero = tt
blocks_order blocks a (suc n) =
    order-append place_lt (block_places blocks a) (flat_map (block_places blocks) (range_with_len (a + 1) n))
    (range_order a 0 (block blocks a).pages) (blocks_order blocks (a + 1) n)
    (All-map (λ p. All (λ q. IsTrue (place_lt p q)) (flat_map (block_places blocks) (range_with_len (a + 1) n))) (place_at a)
    (range_with_len 0 (block blocks a).pages)
    (All-any (λ j. All (λ q. IsTrue (place_lt (place_at a j) q)) (flat_map (block_places blocks) (range_with_len (a + 1) n))) (λ j.
    All-flat_map (λ q. IsTrue (place_lt (place_at a j) q)) (block_places blocks) (range_with_len (a + 1) n)
    (All-range (λ b. All (λ q. IsTrue (place_lt (place_at a j) q)) (block_places blocks b)) (a + 1) n (λ b lo hi.
    All-map (λ q. IsTrue (place_lt (place_at a j) q)) (place_at b) (range_with_len 0 (block blocks b).pages)
    (All-any (λ k. IsTrue (place_lt (place_at a j) (place_at b k)))
    (λ k. place_lt-from (place_at a j) (place_at b k) (inl (omega arith))) (range_with_len 0 (block blocks b).pages)))))
    (range_with_len 0 (block blocks a).pages)))

-- the table's places are in ascending order
pub places_order : (table : RamTable) → InOrder place_lt (places table)
unfolding places
places_order table = blocks_order table.blocks 0 (length table.blocks)

-- ---- what a look-up of a place finds

-- a place that a list has is found in it
pub find_place : (p : Place) (ps : List Place) → has_place ps p ≡ true → find (λ q. place_eq q p) ps ≡ Some p
find_place p [] h = absurd cc
find_place p (q ∷ qs) h = elim (cases_Bool (place_eq q p)) [
  | inl t ↦ rw t (ap (λ (r : Place). Some r) (place_eq-true q p t))
  | inr f ↦ rw f (find_place p qs (elim (or_cases (place_eq q p) (has_place qs p) h) [ inl t ↦ absurd cc | inr t ↦ t ]))
]

-- a place that a list doesn't have isn't found in it
pub find_no_place : (p : Place) (ps : List Place) → has_place ps p ≡ false → find (λ q. place_eq q p) ps ≡ None
find_no_place p [] h = refl
find_no_place p (q ∷ qs) h = let both = or_parts (place_eq q p) (has_place qs p) h in let f : place_eq q p ≡ false = both.0 in rw f (find_no_place p qs both.1)
