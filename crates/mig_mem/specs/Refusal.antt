-- Why a list of blocks is no table, and the numbers of the faults.
use Rattle.std.specs.Prelude.{ℕ, ◌≡◌, ◌↔◌, ◌*◌, ◌^◌, List, [], ◌∷◌, length, map, take, Option, None, not, nat_lt, ◌==◌}
use Rattle.std.specs.Bool.{then_some}
use Rattle.std.specs.List.{list_any, range_with_len}
use Rattle.std.specs.Str.{bytes_eq}
use Rattle.mig_mem.specs.PageSize.{IsPageSize}
use Rattle.mig_mem.specs.First.{first_some}
use Rattle.mig_mem.specs.RamTable.{Block, RamTable, IsTable, block, is_id, max_blocks, total_pages}
use Rattle.mig_mem.specs.declared.fault.TableFault.{TableFault}
use Rattle.mig_mem.specs.declared.fault.TableFault.TheVariants.{NoBlocks, TooManyBlocks, Id, IdTwice, NoPages, TooLarge, NoMemory}

-- the fault of an entry, given the entries before it
unfoldable pub block_refusal : List Block → Block → Option TableFault
block_refusal before b = first_some (
    then_some (not (is_id b.id)) (Id (length before))
    ∷ (then_some (list_any (λ e. bytes_eq e.id b.id) before) (IdTwice (length before))
    ∷ (then_some (b.pages == 0) (NoPages (length before))
    ∷ [])))

-- the fault of the entry with a number
abbrev pub entry_refusal : List Block → ℕ → Option TableFault
entry_refusal blocks i = block_refusal (take i blocks) (block blocks i)

-- Why these blocks are no table: the first reason that applies. It names the first bad entry.
unfoldable pub refusal : RamTable → Option TableFault
refusal table = first_some (
    then_some (length table.blocks == 0) NoBlocks
    ∷ (then_some (nat_lt max_blocks (length table.blocks)) TooManyBlocks
    ∷ (first_some (map (entry_refusal table.blocks) (range_with_len 0 (length table.blocks)))
    ∷ (then_some (nat_lt (2 ^ 40) (total_pages table.blocks * table.page_size)) TooLarge
    ∷ []))))

abbrev pub no_memory_number : ℕ
no_memory_number = 60

abbrev pub fault_number : TableFault → ℕ
fault_number NoBlocks = 1
fault_number TooManyBlocks = 2
fault_number (Id i) = 3
fault_number (IdTwice i) = 4
fault_number (NoPages i) = 5
fault_number TooLarge = 6
fault_number NoMemory = no_memory_number

-- A list has no refusal exactly if it is a lawful table.
abbrev pub TableIsLawful : Type 0
TableIsLawful = (table : RamTable) → IsPageSize table.page_size → (refusal table ≡ None) ↔ IsTable table
