-- The test of two tables answers whether they are one.
use Rattle.std.proofs.Common.{ℕ, ◌≡◌, List, Bool, true, false, ◌&&◌, refl, sym, ap, ap₂, subst, ◌∙◌, ◌==◌}
use Rattle.std.proofs.lemmas.Bool.{and_parts, false_from_ne_true}
use Rattle.std.specs.Prelude.{Decides, nat_eq}
use Rattle.std.specs.Cmp.{unsigned_Decides}
use Rattle.std.specs.Cmp.Lexicographic.{pointwise, pointwise_decides}
use Rattle.mig_mem.specs.RamTable.{Block, RamTable, same_block, same_tables}

ids_decide : (a b : List ℕ) → Decides (pointwise nat_eq a b) (a ≡ b)
ids_decide = pointwise_decides unsigned_Decides

block_itself : (a : Block) → same_block a a ≡ true
block_itself a = ap₂ ◌&&◌ ((ids_decide a.id a.id).1 refl) ((unsigned_Decides a.pages a.pages).1 refl)

block_same : (a b : Block) → same_block a b ≡ true → a ≡ b
block_same a b e =
    let parts = and_parts (pointwise nat_eq a.id b.id) (a.pages == b.pages) e in
    let id : a.id ≡ b.id = (ids_decide a.id b.id).0 parts.0 in
    let pages : a.pages ≡ b.pages = (unsigned_Decides a.pages b.pages).0 parts.1 in
    ap (λ (n : List ℕ). record { id = n; pages = a.pages }) id ∙ ap (λ (n : ℕ). record { id = b.id; pages = n }) pages

blocks_decide : (a b : Block) → Decides (same_block a b) (a ≡ b)
blocks_decide a b = (block_same a b, λ e. subst (λ (x : Block). same_block a x ≡ true) e (block_itself a))

same_table : (a b : RamTable) → a.page_size ≡ b.page_size → a.blocks ≡ b.blocks → a ≡ b
same_table a b size blocks = ap (λ (n : ℕ). record { page_size = n; blocks = a.blocks }) size
    ∙ ap (λ (l : List Block). record { page_size = b.page_size; blocks = l }) blocks

tables_same : (a b : RamTable) → same_tables a b ≡ true → a ≡ b
tables_same a b e =
    let parts = and_parts (a.page_size == b.page_size) (pointwise same_block a.blocks b.blocks) e in
    same_table a b ((unsigned_Decides a.page_size b.page_size).0 parts.0) ((pointwise_decides blocks_decide a.blocks b.blocks).0 parts.1)

table_itself : (a : RamTable) → same_tables a a ≡ true
table_itself a = ap₂ ◌&&◌ ((unsigned_Decides a.page_size a.page_size).1 refl) ((pointwise_decides blocks_decide a.blocks a.blocks).1 refl)

-- the test of two tables holds exactly if they are one
pub tables_decide : (a b : RamTable) → Decides (same_tables a b) (a ≡ b)
tables_decide a b = (tables_same a b, λ e. subst (λ (x : RamTable). same_tables a x ≡ true) e (table_itself a))

-- an answer that is true exactly if two tables are one is what the test gives
pub answers_same : (r : Bool) (a b : RamTable) → (r ≡ true → a ≡ b) × (a ≡ b → r ≡ true) → r ≡ same_tables a b
answers_same true a b h = sym ((tables_decide a b).1 (h.0 refl))
answers_same false a b h = sym (false_from_ne_true (same_tables a b) (λ t. let wrong : false ≡ true = h.1 (tables_same a b t) in cc))
