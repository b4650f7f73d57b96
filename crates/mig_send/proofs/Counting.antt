-- How many places, and so how many batches, there are at most.
use Rattle.std.proofs.Common.{ℕ, ◌≡◌, ◌+◌, ◌*◌, ◌^◌, ◌<◌, ◌≤◌, ◌⊎◌, List, [], ◌∷◌, length, take, ap, subst, refl, arith, zero, suc, inl, inr, IsTrue}
use Rattle.std.specs.Prelude.{flat_map, sum_by}
use Rattle.std.specs.List.{All}
use Rattle.std.proofs.lemmas.List.{length-map, length-append}
use Rattle.std.proofs.lemmas.List.Elements.{All-head, All-tail}
use Rattle.std.proofs.lemmas.List.Concat.{flat_map-cons}
use Rattle.std.proofs.lemmas.List.Sums.{sum_by-take-le, sum_by-cons}
use Rattle.mig_mem.specs.declared.place.Place.{Place}
use Rattle.mig_mem.specs.RamTable.{Block, RamTable, block, total_pages}
use Rattle.mig_mem.specs.Place.{IsPlace, place_lt, place_at}
use Rattle.mig_mem.specs.PlaceSet.{PlaceSet, IsPlaceSet}
use Rattle.mig_mem.proofs.Members.{InOrder, order_from_AllPairs}
use Rattle.mig_mem.proofs.PlaceOrder.{place_lt-true}
use Rattle.mig_send.specs.Batches.{BatchOfPages, IsCut, batch_places}

abbrev pages_of : Block → ℕ
pages_of b = b.pages

-- how many pages stand before a place
abbrev rank : List Block → Place → ℕ
rank blocks p = sum_by pages_of (take p.block blocks) + p.page

-- the blocks before a later one have at least the pages up to the end of this one
before_more : (blocks : List Block) (i j : ℕ) → i < j → i < length blocks
    → sum_by pages_of (take i blocks) + (block blocks i).pages ≤ sum_by pages_of (take j blocks)
before_more [] i j lt within = absurd (omega (arith, within))
before_more (b ∷ blocks) i zero lt within = absurd (omega (arith, lt))
before_more (b ∷ blocks) zero (suc j) lt within =
    let here : (block (b ∷ blocks) 0).pages ≡ b.pages = refl in
    let behind : sum_by pages_of (take (suc j) (b ∷ blocks)) ≡ b.pages + sum_by pages_of (take j blocks) = sum_by-cons pages_of b (take j blocks) in
    let none : sum_by pages_of (take 0 (b ∷ blocks)) ≡ 0 = refl in
    omega (arith, here, behind, none)
before_more (b ∷ blocks) (suc i) (suc j) lt within =
    let here : (block (b ∷ blocks) (suc i)).pages ≡ (block blocks i).pages = refl in
    let before : sum_by pages_of (take (suc i) (b ∷ blocks)) ≡ b.pages + sum_by pages_of (take i blocks) = sum_by-cons pages_of b (take i blocks) in
    let behind : sum_by pages_of (take (suc j) (b ∷ blocks)) ≡ b.pages + sum_by pages_of (take j blocks) = sum_by-cons pages_of b (take j blocks) in
    let rest = before_more blocks i j (omega (arith, lt)) (omega (arith, within)) in
    omega (arith, here, before, behind, rest)

rank_rises : (table : RamTable) (p q : Place) → IsPlace table p → IsTrue (place_lt p q) → rank table.blocks p < rank table.blocks q
rank_rises table p q is lt = elim (place_lt-true p q lt) as (λ _. rank table.blocks p < rank table.blocks q) [
  | inl less ↦ let more = before_more table.blocks p.block q.block less is.has_block in let page = is.has_page in omega (arith, more, page)
  | inr same ↦ let e = ap (λ (n : ℕ). sum_by pages_of (take n table.blocks)) same.0 in let lt' = same.1 in omega (arith, e, lt')
]

rank_below : (table : RamTable) (p : Place) → IsPlace table p → rank table.blocks p < total_pages table.blocks
rank_below table p is =
    let more = before_more table.blocks p.block (suc p.block) (omega arith) is.has_block in
    let page = is.has_page in
    let all = sum_by-take-le pages_of table.blocks (suc p.block) in
    omega (arith, more, page, all)

-- places that ascend are no more than the pages from the first on
few_from : (table : RamTable) (p : Place) (ps : List Place) → All (IsPlace table) (p ∷ ps) → InOrder place_lt (p ∷ ps)
    → rank table.blocks p + suc (length ps) ≤ total_pages table.blocks
few_from table p [] all order = omega (arith, rank_below table p (All-head (IsPlace table) p [] all))
few_from table p (q ∷ ps) all order =
    let rest = few_from table q ps (All-tail (IsPlace table) p (q ∷ ps) all) order.1 in
    let rises = rank_rises table p q (All-head (IsPlace table) p (q ∷ ps) all) (All-head (λ r. IsTrue (place_lt p r)) q ps order.0) in
    omega (arith, rest, rises)

few : (table : RamTable) (ps : List Place) → All (IsPlace table) ps → InOrder place_lt ps → length ps ≤ total_pages table.blocks
few table [] all order = omega arith
few table (p ∷ ps) all order = omega (arith, few_from table p ps all order)

few_pages : (total page_size : ℕ) → (page_size ≡ 4096) ⊎ (page_size ≡ 8192) → total * page_size ≤ 2 ^ 40 → total ≤ 2 ^ 28
few_pages total page_size (inl e) room = let room' : total * 4096 ≤ 2 ^ 40 = subst (λ (n : ℕ). total * n ≤ 2 ^ 40) e room in omega (arith, room')
few_pages total page_size (inr e) room = let room' : total * 8192 ≤ 2 ^ 40 = subst (λ (n : ℕ). total * n ≤ 2 ^ 40) e room in omega (arith, room')

-- batches of at least one page each are no more than their places
pub batches_few : (batches : List BatchOfPages) (limit : ℕ) → All (λ batch. (0 < length batch.pages) × (length batch.pages ≤ limit)) batches
    → length batches ≤ length (flat_map batch_places batches)
batches_few [] limit sizes = omega arith
batches_few (b ∷ batches) limit sizes =
    let P = λ (batch : BatchOfPages). (0 < length batch.pages) × (length batch.pages ≤ limit) in
    let here = (All-head P b batches sizes).0 in
    let rest = batches_few batches limit (All-tail P b batches sizes) in
    omega (
      arith,
      ap length (flat_map-cons batch_places b batches),
      length-append (batch_places b) (flat_map batch_places batches),
      length-map b.pages (place_at b.block),
      here,
      rest,
    )

-- a set has at most as many places
pub few_places : (set : PlaceSet) → IsPlaceSet set → length set.marked ≤ 2 ^ 28
few_places set is =
    let places = few set.table set.marked is.is_within (order_from_AllPairs place_lt set.marked is.is_ascending) in
    let total = few_pages (total_pages set.table.blocks) set.table.page_size is.has_table.has_page_size is.has_table.has_room in
    omega (arith, places, total)

-- so a round has no more batches than a deal can number
pub few_batches : (set : PlaceSet) (limit : ℕ) (batches : List BatchOfPages) → IsPlaceSet set → IsCut limit set.marked batches → length batches ≤ 2 ^ 28
few_batches set limit batches is cut = omega (arith, batches_few batches limit cut.has_sizes, ap length cut.has_all, few_places set is)
