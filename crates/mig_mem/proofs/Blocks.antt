-- The blocks of a table, one by one.
use Rattle.std.proofs.Common.{ℕ, ◌≡◌, ◌+◌, ◌<◌, ◌≤◌, ◌*◌, ◌^◌, List, [], ◌∷◌, ◌++◌, length, take, sym, ap, ◌∙◌, add-one, arith, true, false, Some, ◌&&◌}
use Rattle.std.proofs.Math.Seq.{take-suc}
use Rattle.std.proofs.lemmas.Bool.{and_parts, ltb-true, leb-true, false_from_ne_true}
use Rattle.std.proofs.lemmas.Slice.Eq.{bytes_eq-Decides}
use Rattle.std.specs.Str.{bytes_eq}
use Rattle.std.proofs.lemmas.List.Sums.{get_or-le-sum_by}
use Rattle.std.specs.List.{list_all}
use Rattle.std.specs.Prelude.{nat_lt, nat_le}
use Rattle.mig_mem.specs.RamTable.{Block, RamTable, block, is_id, is_printable, IsTable, total_pages, block_of}
use Rattle.mig_mem.proofs.Lists.{position_at}

-- equal so far, and at one block more
pub same_step : (xs ys : List Block) (i : ℕ) → i < length xs → i < length ys → take i xs ≡ take i ys
    → (block xs i).id ≡ (block ys i).id → (block xs i).pages ≡ (block ys i).pages
    → take (i + 1) xs ≡ take (i + 1) ys
same_step xs ys i lx ly front id pages =
    let none : Block = record { id = []; pages = 0 } in
    let x : Block = block xs i in
    let y : Block = block ys i in
    let one : x ≡ y = ap (λ (n : List ℕ). record { id = n; pages = x.pages }) id ∙ ap (λ (n : ℕ). record { id = y.id; pages = n }) pages in
    rw (add-one) (take-suc xs i none lx ∙ ap (λ (f : List Block). f ++ x ∷ []) front ∙ ap (λ (b : Block). take i ys ++ b ∷ []) one
    ∙ sym (take-suc ys i none ly))

-- the limits of a block's id
pub id_length : (id : List ℕ) → is_id id ≡ true → (0 < length id) × (length id ≤ 255)
unfolding is_id
id_length id h =
    let most = and_parts (nat_lt 0 (length id) && nat_le (length id) 255) (list_all is_printable id) h in
    let two = and_parts (nat_lt 0 (length id)) (nat_le (length id) 255) most.0 in
    (ltb-true 0 (length id) two.0, leb-true (length id) 255 two.1)

-- a block's id has 1 to 255 bytes
pub block_id_length : (table : RamTable) (i : ℕ) → IsTable table → i < length table.blocks
    → (0 < length (block table.blocks i).id) × (length (block table.blocks i).id ≤ 255)
block_id_length table i is lt = id_length (block table.blocks i).id (is.has_ids i (record { id = []; pages = 0 }) lt)

-- the bytes of one block are among those of all
pub block_room : (table : RamTable) (i : ℕ) → IsTable table → i < length table.blocks → (block table.blocks i).pages * table.page_size ≤ 2 ^ 40
block_room table i is lt =
    let le : (block table.blocks i).pages ≤ total_pages table.blocks =
    get_or-le-sum_by (λ (b : Block). b.pages) table.blocks i (record { id = []; pages = 0 }) lt in
    let room : total_pages table.blocks * table.page_size ≤ 2 ^ 40 = is.has_room in
    grind arith

-- each block of a table has a page
pub block_some : (table : RamTable) (i : ℕ) → IsTable table → i < length table.blocks → 0 < (block table.blocks i).pages
block_some table i is lt = is.has_pages i (record { id = []; pages = 0 }) lt

-- a block is found by its id
pub block_found : (table : RamTable) (i : ℕ) (id : List ℕ) → IsTable table → i < length table.blocks
    → (block table.blocks i).id ≡ id → block_of table.blocks id ≡ Some i
block_found table i id is lt e =
    let none : Block = record { id = []; pages = 0 } in
    let other : (k : ℕ) → k < i → bytes_eq (block table.blocks k).id id ≡ false = λ k before.
    false_from_ne_true (bytes_eq (block table.blocks k).id id)
    (λ t. is.has_own_ids k i none before lt ((bytes_eq-Decides (block table.blocks k).id id).0 t ∙ sym e)) in
    position_at (λ (b : Block). bytes_eq b.id id) table.blocks i none lt other ((bytes_eq-Decides (block table.blocks i).id id).1 e)
