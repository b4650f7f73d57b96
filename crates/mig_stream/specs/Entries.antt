-- The entries of a size list that have been read.
use Rattle.std.specs.Prelude.{◌≡◌, ◌≢◌, ℕ, ◌+◌, ◌-◌, ◌*◌, ◌/◌, ◌%◌, ◌<◌, ◌≤◌, ◌^◌, List, [], ◌∷◌, ◌++◌, length, take, true, Option, Some, None, All, AllPairs, IsTrue}
use Rattle.std.specs.Bool.{then_some}
use Rattle.std.specs.Option.{unwrap_or}
use Rattle.mig_mem.specs.PageSize.{IsPageSize}
use Rattle.mig_mem.specs.RamTable.{Block, RamTable, block_of, is_id, total_pages, max_blocks}
use Rattle.mig_stream.specs.Progress.{is_used_up}

-- the page size, the limit on the total, how many bytes of the total are left (None before the
-- list), and the blocks
pub record Listed : Type 0 where
  pub page_size : ℕ
  pub limit : ℕ
  pub left : Option ℕ
  pub blocks : List Block

-- the table of these blocks, once no byte is left
abbrev pub listed_table : ℕ → Option ℕ → List Block → Option RamTable
listed_table page_size left blocks = then_some (is_used_up left) (record { page_size = page_size; blocks = blocks })

-- The invariant of the blocks so far: all conditions of a lawful table, except that there is a
-- block.
pub record AreListed (page_size limit : ℕ) (left : Option ℕ) (blocks : List Block) : Type 0 where
  pub has_page_size : IsPageSize page_size
  pub has_limit : limit ≤ 2 ^ 40
  pub has_few : length blocks ≤ max_blocks
  pub has_ids : All (λ b. IsTrue (is_id b.id)) blocks
  pub has_own_ids : AllPairs (λ a b. a.id ≢ b.id) blocks
  pub has_pages : All (λ b. 0 < b.pages) blocks
  pub has_room : total_pages blocks * page_size + unwrap_or left 0 ≤ limit
  pub has_begun : left ≡ None → blocks ≡ []

-- an entry with this id and this many bytes may follow
pub record IsNext (e : Listed) (id : List ℕ) (len : ℕ) : Type 0 where
  pub has_room : length e.blocks < max_blocks
  pub has_id : IsTrue (is_id id)
  pub has_own_id : block_of e.blocks id ≡ None
  pub has_pages : 0 < len
  pub has_whole_pages : len % e.page_size ≡ 0
  pub has_bytes : len ≤ unwrap_or e.left 0

abbrev pub with_entry : Listed → List ℕ → ℕ → Listed
with_entry e id len = record e {
  left = Some (unwrap_or e.left 0 - len);
  blocks = e.blocks ++ record { id = id; pages = len / e.page_size } ∷ [];
}

-- These entries had `left` bytes left after `count` of them, and a complete table stays.
pub record WereListed (e : Listed) (left : Option ℕ) (count : ℕ) : Type 0 where
  pub are_listed : AreListed e.page_size e.limit left (take count e.blocks)
  pub same_table : is_used_up left ≡ true → (e.left ≡ left) × (take count e.blocks ≡ e.blocks)
