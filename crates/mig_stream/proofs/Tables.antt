-- A table is lawful exactly if each of its blocks is a good one after those before it, as a size
-- list is judged.
use Rattle.std.proofs.Common.{ℕ, ◌≡◌, ◌≢◌, ◌+◌, ◌*◌, ◌^◌, ◌<◌, ◌≤◌, Bool, true, false, cond, List, [], ◌∷◌, ◌++◌, length, get_or, All, AllPairs, sum_by}
use Rattle.std.proofs.Common.{position, nat_lt, Some, None, refl, sym, ap, subst, ◌∙◌, append_assoc, append-nil, arith}
use Rattle.std.specs.Prelude.{IsTrue, ⊤}
use Rattle.std.specs.List.{position_or_len}
use Rattle.std.specs.Str.{bytes_eq}
use Rattle.std.proofs.lemmas.Bool.{ltb-false, false_from_ne_true}
use Rattle.std.proofs.lemmas.List.{get_or_append_left, get_or-append-add, length-append}
use Rattle.std.proofs.lemmas.List.Elements.{All-nil, All-head, All-tail, All-push}
use Rattle.std.proofs.lemmas.List.Quantifiers.{all_pairs_push}
use Rattle.std.proofs.lemmas.List.Sums.{sum_by-cons, fails_before_first}
use Rattle.std.proofs.lemmas.Slice.Eq.{bytes_eq-Decides}
use Rattle.mig_mem.specs.PageSize.{IsPageSize}
use Rattle.mig_mem.specs.RamTable.{Block, RamTable, block, block_of, is_id, IsTable}
use Rattle.mig_mem.proofs.Lists.{position_at, position_past}
use Rattle.mig_stream.specs.Text.{total_bytes}

-- These blocks may follow those before them: each has an id that no earlier block has, and a page.
abbrev pub AreBlocks : List Block → List Block → Type 0
AreBlocks before [] = ⊤
AreBlocks before (b ∷ bs) = IsTrue (is_id b.id) × (block_of before b.id ≡ None) × (0 < b.pages) × AreBlocks (before ++ b ∷ []) bs

-- how many bytes these blocks have
abbrev pub sum_of : ℕ → List Block → ℕ
sum_of p [] = 0
sum_of p (b ∷ bs) = b.pages * p + sum_of p bs

-- ---- ids that are apart

-- two ids that are not the same don't pass the test
ids_apart : (a b : List ℕ) → a ≢ b → bytes_eq a b ≡ false
ids_apart a b apart = false_from_ne_true (bytes_eq a b) (λ t. apart ((bytes_eq-Decides a b).0 t))

-- a list in which none is found has no element that passes
no_position : {X : Type 0} (p : X → Bool) (xs : List X) (k : ℕ) (d : X) → position p xs ≡ None → k < length xs → p (get_or xs k d) ≡ false
no_position {X} p xs k d none lt =
    let past : length xs ≤ position_or_len p xs =
    ltb-false (position_or_len p xs) (length xs) (no_answer (nat_lt (position_or_len p xs) (length xs)) (position_or_len p xs) none) in
    fails_before_first p xs k d (omega arith)
  where
    no_answer : (b : Bool) (n : ℕ) → cond b (Some n) None ≡ None → b ≡ false
    no_answer true n h = absurd cc
    no_answer false n h = refl

-- if no block before has an id, none of them has it
pub new_id : (before : List Block) (b : Block) (k : ℕ) (d : Block) → block_of before b.id ≡ None → k < length before → (get_or before k d).id ≢ b.id
new_id before b k d none lt e =
    let fails : bytes_eq (get_or before k d).id b.id ≡ false = no_position (λ (x : Block). bytes_eq x.id b.id) before k d none lt in
    let passes : bytes_eq (get_or before k d).id b.id ≡ true = (bytes_eq-Decides (get_or before k d).id b.id).1 e in
    absurd (let clash : true ≡ false = sym passes ∙ fails in cc)

-- ---- a lawful table has such blocks, and such blocks make a lawful table

follow_from_table : (before bs : List Block) → All (λ b. IsTrue (is_id b.id)) bs → AllPairs (λ a b. a.id ≢ b.id) (before ++ bs)
    → All (λ b. 0 < b.pages) bs → AreBlocks before bs
follow_from_table before [] ids apart pages = tt
follow_from_table before (b ∷ bs) ids apart pages =
    let here : get_or (before ++ b ∷ bs) (length before + 0) b ≡ b = get_or-append-add before (b ∷ bs) 0 b in
    let long : length (before ++ b ∷ bs) ≡ length before + (length bs + 1) = length-append before (b ∷ bs) ∙ omega arith in
    let none : block_of before b.id ≡ None = position_past (λ (x : Block). bytes_eq x.id b.id) before (length before) b (omega arith) (λ k lt.
    let there : get_or (before ++ b ∷ bs) k b ≡ get_or before k b = get_or_append_left before (b ∷ bs) b k lt in
    ids_apart (get_or before k b).id b.id (λ e. apart k (length before + 0) b (omega arith) (omega (arith, long))
    (ap (λ (x : Block). x.id) there ∙ e ∙ ap (λ (x : Block). x.id) (sym here)))) in
    let more : AllPairs (λ x y. x.id ≢ y.id) ((before ++ b ∷ []) ++ bs) =
    subst (AllPairs (λ (x y : Block). x.id ≢ y.id)) (sym (append_assoc before (b ∷ []) bs)) apart in (
      All-head (λ (x : Block). IsTrue (is_id x.id)) b bs ids,
      none,
      All-head (λ (x : Block). 0 < x.pages) b bs pages,
      follow_from_table (before ++ b ∷ []) bs (All-tail (λ (x : Block). IsTrue (is_id x.id)) b bs ids) more (All-tail (λ (x : Block). 0 < x.pages) b bs pages),
    )

-- what a lawful table says of its blocks
record AreLawful (blocks : List Block) : Type 0 where
  ids : All (λ b. IsTrue (is_id b.id)) blocks
  apart : AllPairs (λ a b. a.id ≢ b.id) blocks
  pages : All (λ b. 0 < b.pages) blocks

lawful_from_follow : (before bs : List Block) → AreLawful before → AreBlocks before bs → AreLawful (before ++ bs)
lawful_from_follow before [] so_far blocks = subst AreLawful (sym (append-nil before)) so_far
lawful_from_follow before (b ∷ bs) so_far blocks =
    let more : AreLawful (before ++ b ∷ []) = record {
      ids = All-push (λ (x : Block). IsTrue (is_id x.id)) before b so_far.ids blocks.0;
      apart = all_pairs_push (λ (x y : Block). x.id ≢ y.id) before b so_far.apart (λ k d lt. new_id before b k d blocks.1 lt);
      pages = All-push (λ (x : Block). 0 < x.pages) before b so_far.pages blocks.2;
    } in
    subst AreLawful (append_assoc before (b ∷ []) bs) (lawful_from_follow (before ++ b ∷ []) bs more blocks.3)

-- The blocks of a lawful table may follow one another.
pub blocks_from_table : (table : RamTable) → IsTable table → AreBlocks [] table.blocks
blocks_from_table table is = follow_from_table [] table.blocks is.has_ids is.has_own_ids is.has_pages

-- Blocks that may follow one another make a lawful table.
pub table_from_blocks : (table : RamTable) → IsPageSize table.page_size → 0 < length table.blocks → length table.blocks ≤ 256
    → AreBlocks [] table.blocks → total_bytes table ≤ 2 ^ 40 → IsTable table
table_from_blocks table size some few blocks room =
    let none : AreLawful [] = record {
      ids = All-nil (λ (x : Block). IsTrue (is_id x.id));
      apart = λ i j d before within. absurd (omega arith);
      pages = All-nil (λ (x : Block). 0 < x.pages);
    } in
    let all : AreLawful table.blocks = lawful_from_follow [] table.blocks none blocks in
    record {
      has_page_size = size;
      has_blocks = some;
      has_few = few;
      has_ids = all.ids;
      has_own_ids = all.apart;
      has_pages = all.pages;
      has_room = room;
    }

-- ---- ids and totals

-- The id of each block finds that block.
pub finds_each : (table : RamTable) → IsTable table → (i : ℕ) → i < length table.blocks → block_of table.blocks (block table.blocks i).id ≡ Some i
finds_each table is i lt =
    let blocks : List Block = table.blocks in
    let id : List ℕ = (block blocks i).id in
    let none : Block = record { id = []; pages = 0 } in
    position_at (λ (x : Block). bytes_eq x.id id) blocks i none lt
    (λ k before. ids_apart (get_or blocks k none).id id (is.has_own_ids k i none before lt)) ((bytes_eq-Decides id id).1 refl)

sum_is : (p : ℕ) (bs : List Block) → sum_by (λ b. b.pages) bs * p ≡ sum_of p bs
sum_is p [] = omega arith
sum_is p (b ∷ bs) =
    let first : sum_by (λ (x : Block). x.pages) (b ∷ bs) ≡ b.pages + sum_by (λ (x : Block). x.pages) bs = sum_by-cons (λ (x : Block). x.pages) b bs in
    let others : sum_by (λ (x : Block). x.pages) bs * p ≡ sum_of p bs = sum_is p bs in
    ap (λ (n : ℕ). n * p) first ∙ omega (arith, others)

-- The total of a table is the sum over its blocks.
pub total_is_sum : (table : RamTable) → total_bytes table ≡ sum_of table.page_size table.blocks
total_is_sum table = sum_is table.page_size table.blocks
