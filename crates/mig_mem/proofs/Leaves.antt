-- A list in leaves: what is read of it, and what is written.
use Rattle.std.proofs.Common.{ℕ, ◌≡◌, ◌≢◌, ◌<◌, ◌≤◌, ◌+◌, ◌*◌, ◌/◌, ◌%◌, List, [], length, get_or, set, drop, replicate, refl, sym, ap, ◌∙◌, inl, inr, arith}
use Rattle.std.proofs.Common.{zero, suc, vec_len, get_or-set_same, get_or-set_other}
use Rattle.std.proofs.Math.Nat.{div-add-mod}
use Rattle.std.proofs.lemmas.Bool.{cases_eq}
use Rattle.std.specs.declared.vec.Vec.{Vec}
use Rattle.std.proofs.lemmas.List.{ext_get_or, get_or_default, get_or-replicate, length-set, length-replicate, length-take-le, length-drop}
use Rattle.std.proofs.lemmas.List.FromFn.{get_or-map-range_with_len, length-map-range_with_len}
use Rattle.mig_mem.specs.Parts.{part_at, parts_in, AreParts}
use Rattle.mig_mem.specs.Leaves.{number_at, numbers_in, AreLeaves}
use Rattle.mig_mem.proofs.PageSizes.{page_of_offset}
use Rattle.mig_mem.proofs.Slotted.{length-pages, page_zeros, page_bytes, room_slot}

-- there is one number for each page
pub length-numbers : (size count : ℕ) (slots items : List ℕ) → length (numbers_in size count slots items) ≡ count
unfolding numbers_in
length-numbers size count slots items = length-map-range_with_len (number_at size (parts_in size slots items)) 0 count

-- a number of the list is the one at its place in its leaf
pub number_is : (size count : ℕ) (slots items : List ℕ) (i : ℕ) → i < count
    → get_or (numbers_in size count slots items) i 0 ≡ number_at size (parts_in size slots items) i
unfolding numbers_in
number_is size count slots items i lt = get_or-map-range_with_len (number_at size (parts_in size slots items)) 0 count i i 0 lt (omega arith)

-- the leaf of a number is there
pub has_leaf : (size count : ℕ) (slots items : List ℕ) (capacity i : ℕ) → AreLeaves size count slots items capacity → i < count → i / size < length slots
has_leaf size count slots items capacity i are lt = page_of_offset size (length slots) i are.are_parts.is_some (omega (arith, are.enough))

-- what is read of the list of leaves
pub leaf_is : {A : Type 0} (slots : Vec ℕ A) (i s : ℕ) → i < vec_len slots → s ≡ get_or slots.items i s → get_or slots.items i 0 ≡ s
leaf_is slots i s lt e = get_or_default slots.items i 0 s (omega (arith, slots.ok.0)) ∙ sym e

-- a number's place in its leaf is below the leaf's size
pub place_in_leaf : (size i : ℕ) → 0 < size → i % size < size
place_in_leaf size i some = omega (arith, some)

-- a number is 0 whose leaf was never written
pub number_zero : (size count : ℕ) (slots items : List ℕ) (i : ℕ) → 0 < size → i / size < length slots → i < count
    → get_or slots (i / size) 0 ≡ 0 → get_or (numbers_in size count slots items) i 0 ≡ 0
number_zero size count slots items i some inside lt none =
    number_is size count slots items i lt ∙ ap (λ (l : List ℕ). get_or l (i % size) 0) (page_zeros size slots items (i / size) inside none)
    ∙ get_or-replicate size (i % size) 0 0 (place_in_leaf size i some)

-- else it lies in its leaf
pub number_read : (size count : ℕ) (slots items : List ℕ) (i k : ℕ) → i / size < length slots → i < count → get_or slots (i / size) 0 ≡ suc k
    → get_or (numbers_in size count slots items) i 0 ≡ get_or (part_at size items k) (i % size) 0
number_read size count slots items i k inside lt there =
    number_is size count slots items i lt ∙ ap (λ (l : List ℕ). get_or l (i % size) 0) (page_bytes size slots items (i / size) k inside there)

-- ---- a number is written

-- a part that lies within the items has the parts' size
pub length-part : (size : ℕ) (items : List ℕ) (k : ℕ) → k * size + size ≤ length items → length (part_at size items k) ≡ size
length-part size items k room = length-take-le size (drop (k * size) items) (omega (arith, length-drop (k * size) items))

-- a leaf has its size
leaf_size : (size : ℕ) (slots items : List ℕ) (capacity q s : ℕ) → AreParts size slots items capacity → q < length slots
    → get_or slots q 0 ≡ s → length (get_or (parts_in size slots items) q []) ≡ size
leaf_size size slots items capacity q zero are lt is = ap (λ (l : List ℕ). length l) (page_zeros size slots items q lt is) ∙ length-replicate size 0
leaf_size size slots items capacity q (suc k) are lt is =
    let room : k * size + size ≤ length items = room_slot size slots items capacity q k are lt is in
    ap (λ (l : List ℕ). length l) (page_bytes size slots items q k lt is) ∙ length-part size items k room

-- the place of a number is that of its leaf and in it
same_number : (size i j : ℕ) → j / size ≡ i / size → j % size ≡ i % size → j ≡ i
same_number size i j leaf place = sym (div-add-mod j size) ∙ ap (λ (q : ℕ). size * q + j % size) leaf
    ∙ ap (λ (r : ℕ). size * (i / size) + r) place ∙ div-add-mod i size

abbrev with_number : ℕ → List (List ℕ) → ℕ → ℕ → List (List ℕ)
with_number size leaves i v = set leaves (i / size) (set (get_or leaves (i / size) []) (i % size) v)

number_same : (size : ℕ) (leaves : List (List ℕ)) (i v : ℕ) → i / size < length leaves
    → i % size < length (get_or leaves (i / size) []) → number_at size (with_number size leaves i v) i ≡ v
number_same size leaves i v inside within =
    let old : List ℕ = get_or leaves (i / size) [] in
    ap (λ (l : List ℕ). get_or l (i % size) 0) (get_or-set_same leaves (i / size) (set old (i % size) v) [] inside) ∙ get_or-set_same old (i % size) v 0 within

number_other : (size : ℕ) (leaves : List (List ℕ)) (i j v : ℕ) → i / size < length leaves → j ≢ i
    → number_at size (with_number size leaves i v) j ≡ number_at size leaves j
number_other size leaves i j v inside other =
    let old : List ℕ = get_or leaves (i / size) [] in
    let new : List ℕ = set old (i % size) v in
    elim (cases_eq (j / size) (i / size)) [
      | inl leaf ↦
          ap (λ (q : ℕ). get_or (get_or (set leaves (i / size) new) q []) (j % size) 0) leaf
          ∙ ap (λ (l : List ℕ). get_or l (j % size) 0) (get_or-set_same leaves (i / size) new [] inside)
          ∙ get_or-set_other old (i % size) (j % size) v 0 (λ place. other (same_number size i j leaf place))
          ∙ ap (λ (q : ℕ). get_or (get_or leaves q []) (j % size) 0) (sym leaf)
      | inr away ↦ ap (λ (l : List ℕ). get_or l (j % size) 0) (get_or-set_other leaves (i / size) (j / size) new [] away)
    ]

-- a number that is put into its leaf replaces the one at its place, and no other
pub number_put : (size count : ℕ) (slots items new_slots new_items : List ℕ) (capacity i v : ℕ) → AreLeaves size count slots items capacity → i < count
    → parts_in size new_slots new_items ≡ with_number size (parts_in size slots items) i v
    → numbers_in size count new_slots new_items ≡ set (numbers_in size count slots items) i v
number_put size count slots items new_slots new_items capacity i v are lt parts =
    let before : List ℕ = numbers_in size count slots items in
    let leaves : List (List ℕ) = parts_in size slots items in
    let many : length before ≡ count = length-numbers size count slots items in
    let leaf : i / size < length slots = has_leaf size count slots items capacity i are lt in
    let inside : i / size < length leaves = omega (arith, length-pages size slots items) in
    let within : i % size < length (get_or leaves (i / size) []) =
    omega (
      arith,
      leaf_size size slots items capacity (i / size) (get_or slots (i / size) 0) are.are_parts leaf refl,
      place_in_leaf size i are.are_parts.is_some,
    ) in
    ext_get_or 0 (numbers_in size count new_slots new_items) (set before i v)
    (length-numbers size count new_slots new_items ∙ sym many ∙ sym (length-set before i v))
    (λ j lj.
    let few : j < count = omega (arith, length-numbers size count new_slots new_items) in
    let read : get_or (numbers_in size count new_slots new_items) j 0 ≡ number_at size (with_number size leaves i v) j =
    number_is size count new_slots new_items j few ∙ ap (λ (l : List (List ℕ)). number_at size l j) parts in
    elim (cases_eq j i) [
      | inl at ↦ read ∙ ap (λ (n : ℕ). number_at size (with_number size leaves i v) n) at ∙ number_same size leaves i v inside within
          ∙ sym (get_or-set_same before i v 0 (omega arith)) ∙ ap (λ (n : ℕ). get_or (set before i v) n 0) (sym at)
      | inr other ↦ read ∙ number_other size leaves i j v inside other ∙ sym (number_is size count slots items j few)
          ∙ sym (get_or-set_other before i j v 0 other)
    ])

-- ---- zeros

-- leaves that aren't there hold zeros
pub zero_numbers : (size count n : ℕ) → 0 < size → count ≤ n * size → numbers_in size count (replicate n 0) [] ≡ replicate count 0
zero_numbers size count n some enough =
    let slots : List ℕ = replicate n 0 in
    let many : length slots ≡ n = length-replicate n 0 in
    ext_get_or 0 (numbers_in size count slots []) (replicate count 0) (length-numbers size count slots [] ∙ sym (length-replicate count 0)) (λ i lt.
    let few : i < count = omega (arith, length-numbers size count slots []) in
    let leaf : i / size < n = page_of_offset size n i some (omega (arith, enough)) in
    number_zero size count slots [] i some (omega arith) few (get_or-replicate n (i / size) 0 0 leaf) ∙ sym (get_or-replicate count i 0 0 few))
