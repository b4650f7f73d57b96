-- Numbers in parts of one size. A part has numbers of its own from its first write on; until then
-- it is zeros.
use Rattle.std.specs.Prelude.{ℕ, zero, suc, ◌≡◌, ◌≢◌, ◌<◌, ◌≤◌, ◌*◌, List, length, map, replicate, take, drop, slice_index, sum_by, min}

-- a part of some numbers that lie one after another
abbrev pub part_at : {T : Type 0} → ℕ → List T → ℕ → List T
part_at size items i = take size (drop (i * size) items)

-- one part has this content, and every other is unchanged
pub record ChangesPart {T : Type 0} (size : ℕ) (old new : List T) (part : ℕ) (content : List T) : Type 0 where
  pub len : length new ≡ length old
  pub here : part_at size new part ≡ content
  pub others : (q : ℕ) → q ≢ part → part_at size new q ≡ part_at size old q

-- the part of a slot: the slots are numbered from 1 on, and 0 represents a part of zeros
abbrev pub slot_part : ℕ → List ℕ → ℕ → List ℕ
slot_part size items zero = replicate size 0
slot_part size items (suc k) = part_at size items k

unfoldable pub parts_in : ℕ → List ℕ → List ℕ → List (List ℕ)
parts_in size slots items = map (slot_part size items) slots

-- how many parts were written
abbrev pub written : List ℕ → ℕ
written slots = sum_by (λ s. min s 1) slots

-- each part that was written has its own numbers, and there is room for all parts
pub record AreParts (size : ℕ) (slots items : List ℕ) (capacity : ℕ) : Type 0 where
  pub is_some : 0 < size
  pub has_items : length items ≡ written slots * size
  pub has_slots : (i : ℕ) → i < length slots → slice_index slots i ≤ written slots
  pub own_slots : (i j : ℕ) → i < length slots → j < length slots → 0 < slice_index slots i → slice_index slots i ≡ slice_index slots j → i ≡ j
  pub has_room : length slots * size ≤ capacity
