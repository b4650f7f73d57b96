-- The table of a guest's memory: its page size and its RAM blocks.
use Rattle.std.specs.Prelude.{ℕ, ◌≢◌, ◌<◌, ◌≤◌, ◌*◌, ◌^◌, List, [], length, map, slice_index_or, All, AllPairs, sum_by, position, Option, Bool, ◌&&◌, nat_lt, nat_le, IsTrue, nat_eq, ◌↔◌, ◌≡◌}
use Rattle.std.specs.List.{list_all}
use Rattle.std.specs.Str.{bytes_eq}
use Rattle.std.specs.Cmp.{IsEquivalence, partial_equiv_from_equiv, IsPartialEquivalence}
use Rattle.std.specs.Cmp.Lexicographic.{pointwise}
use Rattle.std.specs.Cmp.Rules.{comparing}
use Rattle.std.specs.Ordering.{on, eq_of_both}
use Rattle.std.proofs.Common.{rules}
use Rattle.std.specs.declared.vec.Vec.{Vec}
use Rattle.mig_mem.specs.PageSize.{IsPageSize}

-- a RAM block: its id, and how many pages it has
pub record Block : Type 0 where
  pub id : List ℕ
  pub pages : ℕ

pub record RamTable : Type 0 where
  pub page_size : ℕ
  pub blocks : List Block

-- the block that an id with its number of pages represents
abbrev pub entry_block : {A : Type 0} → Vec ℕ A × ℕ → Block
entry_block e = record { id = e.0.items; pages = e.1 }

-- the table that a list of them represents
abbrev pub table_from : {A : Type 0} → ℕ → List (Vec ℕ A × ℕ) → RamTable
table_from page_size list = record { page_size = page_size; blocks = map entry_block list }

-- the block with a number
abbrev pub block : List Block → ℕ → Block
block blocks i = slice_index_or blocks i (record { id = []; pages = 0 })

abbrev pub same_block : Block → Block → Bool
same_block = eq_of_both (on (λ b. b.id) (pointwise nat_eq)) (on (λ b. b.pages) nat_eq)

-- whether two tables have the same page size and the same blocks in the same order
abbrev pub same_tables : RamTable → RamTable → Bool
same_tables = eq_of_both (on (λ t. t.page_size) nat_eq) (on (λ t. t.blocks) (pointwise same_block))

-- that test is an equivalence, as `Eq` asks, and so a partial one, as `PartialEq` does
pub same_tables_equiv : IsEquivalence same_tables
same_tables_equiv = search (comparing, rules) depth 9

pub same_tables_partial_equiv : IsPartialEquivalence same_tables
same_tables_partial_equiv = partial_equiv_from_equiv same_tables_equiv

-- the law: that test holds exactly of a table and itself
abbrev pub EqualTablesAreTheSame : Type 0
EqualTablesAreTheSame = (a b : RamTable) → IsTrue (same_tables a b) ↔ (a ≡ b)

-- the number of the block with an id
abbrev pub block_of : List Block → List ℕ → Option ℕ
block_of blocks id = position (λ b. bytes_eq b.id id) blocks

abbrev pub is_printable : ℕ → Bool
is_printable byte = nat_le 0x20 byte && nat_le byte 0x7E

-- an id has 1 to 255 bytes, all printable
unfoldable pub is_id : List ℕ → Bool
is_id id = nat_lt 0 (length id) && nat_le (length id) 255 && list_all is_printable id

abbrev pub total_pages : List Block → ℕ
total_pages blocks = sum_by (λ b. b.pages) blocks

-- the most blocks that a table has
abbrev pub max_blocks : ℕ
max_blocks = 256

-- A lawful table: a page size of 4096 or 8192, and 1 to 256 blocks with at most 2^40 bytes in all.
-- Each block has at least one page, and an id of 1 to 255 printable bytes that no other block has.
pub record IsTable (table : RamTable) : Type 0 where
  pub has_page_size : IsPageSize table.page_size
  pub has_blocks : 0 < length table.blocks
  pub has_few : length table.blocks ≤ max_blocks
  pub has_ids : All (λ b. IsTrue (is_id b.id)) table.blocks
  pub has_own_ids : AllPairs (λ a b. a.id ≢ b.id) table.blocks
  pub has_pages : All (λ b. 0 < b.pages) table.blocks
  pub has_room : total_pages table.blocks * table.page_size ≤ 2 ^ 40
